-- One more role leaves the memberships those of roles.
use Rattle.std.proofs.Common.{◌≡◌, ℕ, ◌+◌, ◌<◌, ◌≤◌, Bool, true, false, cond, List, [], ◌∷◌, ◌++◌, length, Some, is_some, Result, Ok, Err, OnOk, OnErr, bytes_eq, refl, sym, true≢false, arith}
use Rattle.std.proofs.lemmas.List.{length-append}
use Rattle.std.proofs.lemmas.Bool.{and_parts, and_from}
use Rattle.std.specs.List.{list_all, position_from}
use Rattle.value.specs.Names.{Name}
use Rattle.row_objects.specs.Named.{index_named}
use Rattle.row_objects.specs.Memberships.{Membership, most_roles}
use Rattle.row_objects.specs.Reached.{is_of_roles}
use Rattle.row_objects.specs.declared.objects.Role.{Role}

-- a member that is found among some is found among more
index_more : {E : Type 0} (p : E → Bool) (es more : List E) (k : ℕ) → is_some (position_from p k es) ≡ true → is_some (position_from p k (es ++ more)) ≡ true
index_more p [] more k h = absurd (true≢false (sym h))
index_more p (e ∷ es) more k h = go (p e) h (index_more p es more (k + 1))
  where
    go : (b : Bool) → is_some (cond b (Some k) (position_from p (k + 1) es)) ≡ true → (is_some (position_from p (k + 1) es) ≡ true → is_some (position_from p (k + 1) (es ++ more)) ≡ true)
        → is_some (cond b (Some k) (position_from p (k + 1) (es ++ more))) ≡ true
    go true h rest = refl
    go false h rest = rest h

known_more : (roles more : List (Name × Role)) (ms : List Membership) → list_all (is_of_roles roles) ms ≡ true → list_all (is_of_roles (roles ++ more)) ms ≡ true
known_more roles more [] h = refl
known_more roles more (m ∷ ms) h =
    let p = and_parts (is_of_roles roles m) (list_all (is_of_roles roles) ms) h in
    let q = and_parts (is_some (index_named m.member roles)) (is_some (index_named m.group roles)) p.0 in
    and_from _ _ (and_from _ _ (index_more (λ e. bytes_eq m.member e.0) roles more 0 q.0) (index_more (λ e. bytes_eq m.group e.0) roles more 0 q.1)) (known_more roles more ms p.1)

pub roles_after : {T E : Type 0} (r : Result T E) (old new : List (Name × Role)) (x : Name × Role) (ms : List Membership) → length old < most_roles → list_all (is_of_roles old) ms ≡ true
    → OnOk r (new ≡ old ++ x ∷ []) → OnErr r (new ≡ old) → (length new ≤ most_roles) × (list_all (is_of_roles new) ms ≡ true)
roles_after (Ok u) old new x ms room known done same = rw done (omega (arith, length-append old (x ∷ [])), known_more old (x ∷ []) ms known)
roles_after (Err e) old new x ms room known done same = rw same (omega arith, known)
