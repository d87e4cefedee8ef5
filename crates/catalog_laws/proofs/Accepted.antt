-- A statement that is accepted passes its checks.
use Rattle.std.proofs.Common.{◌≡◌, ◌<◌, nat_le, Bool, true, false, not, cond, List, [], ◌∷◌, Option, Some, None, Ok, refl}
use Rattle.std.specs.Bool.{⊤}
use Rattle.std.proofs.lemmas.Bool.{leb-false, not-false, true≢false}
use Rattle.memory.proofs.Cases.{some_is_not}
use Rattle.value.specs.declared.refusal.Refusal.{Refusal}
use Rattle.value.specs.declared.refusal.Refusal.TheVariants as r
use Rattle.value.specs.Names.{Name}
use Rattle.row_ast.specs.Statements.{Statement}
use Rattle.catalog.specs.Catalog.{Catalog, is_role}
use Rattle.catalog.specs.Checks.{Check, first_refusal, if_found, unless}
use Rattle.catalog.specs.Changes.{after, changed, checks, counted, most_changes}

-- each check is passed
abbrev pub Passed : List Check → Type 0
Passed [] = ⊤
Passed (c ∷ cs) = (c.0 ≡ false) × Passed cs

all_passed : (cs : List Check) → first_refusal cs ≡ None → Passed cs
all_passed [] e = tt
all_passed (c ∷ cs) e = go c.0 e (all_passed cs)
  where
    go : (b : Bool) → cond b (Some c.1) (first_refusal cs) ≡ None → (first_refusal cs ≡ None → Passed cs) → (b ≡ false) × Passed cs
    go true e more = absurd (some_is_not c.1 e)
    go false e more = (refl, more e)

-- the thing that the checks are of is there
pub found : {X : Type 0} (why : Refusal) (its_checks : X → List Check) (o : Option X) → Passed (if_found ((true, why) ∷ []) its_checks o) → (x : X) × (o ≡ Some x) × Passed (its_checks x)
found why its_checks None h = absurd (true≢false h.0)
found why its_checks (Some x) h = (x, refl, h)

-- the new catalogue, and that all checks are passed
pub record IsAccepted (cat new : Catalog) (actor : Name) (s : Statement) : Type 0 where
  pub is : new ≡ counted cat (after cat actor s)
  pub room : cat.change_number < most_changes
  pub by_role : is_role cat actor ≡ true
  pub passed : Passed (checks cat actor s)

not_refused : (a b : Bool) (why other : Refusal) (o : Option Refusal) (due new : Catalog) → unless (cond a (Some why) (cond b (Some other) o)) due ≡ Ok new → (a ≡ false) × (b ≡ false) × (o ≡ None) × (new ≡ due)
not_refused true b why other o due new e = absurd (cc)
not_refused false true why other o due new e = absurd (cc)
not_refused false false why other (Some code) due new e = absurd (cc)
not_refused false false why other None due new e = (refl, refl, refl, cc)

pub accepted : (cat new : Catalog) (actor : Name) (s : Statement) → changed cat actor s ≡ Ok new → IsAccepted cat new actor s
accepted cat new actor s e =
    let all = not_refused (nat_le most_changes cat.change_number) (not (is_role cat actor)) r.ProgramLimitExceeded r.UndefinedObject (first_refusal (checks cat actor s)) (counted cat (after cat actor s)) new e in
    record { is = all.3; room = leb-false most_changes cat.change_number all.0; by_role = not-false (is_role cat actor) all.1; passed = all_passed (checks cat actor s) all.2 }
