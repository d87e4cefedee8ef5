-- The steps by which left joined entries become inner, one after another, lead to the conditions and the left joins of the plan.
use Rattle.std.proofs.Common.{◌≡◌, refl, sym, ap, ap₂, ◌∙◌, ℕ, zero, suc, ◌+◌, ◌-◌, ◌<◌, ◌==◌, true, false, ◌||◌, nat_le, nat_lt, List, [], ◌∷◌, ◌++◌, length, map, get_or, take, drop, drop-cons, Option, Some, None, option_map, unwrap_or, is_some, Ok, if◌then◌else◌, arith}
use Rattle.std.proofs.lemmas.Bool.Decides.{nat_tests}
use Rattle.std.proofs.lemmas.List.{length-take-le, take-append-drop}
use Rattle.std.proofs.lemmas.List.Quantifiers.{position-Some}
use Rattle.expr.specs.declared.bound.ColumnId.{ColumnId}
use Rattle.expr.specs.Bound.{BoundExpr, CurrentUser}
use Rattle.expr.specs.Columns.{columns}
use Rattle.predicates.specs.NullRows.{rejects_null_rows}
use Rattle.predicates.proofs.Movables.{and_left, and_right}
use Rattle.tuples.specs.Guards.{Guard}
use Rattle.row_terms.specs.Terms.{Term, Filtered, Joined, covers}
use Rattle.row_terms.specs.Written.{guarded_entry, joins, left_joins, all_joins, filters}
use Rattle.algebra.specs.PlanningList.{simplified, simplified_parts, parts_of, turns, first_turning, turned, reach}
use Rattle.algebra.specs.Runs.{reads_only, reads_up_to}
use Rattle.rewrite.specs.Simplifying.{parting, parting_each, simplifying_each}
use Rattle.rewrite.specs.Trails.{led}
use Rattle.rewrite.specs.Turning.{turning, parting_on, turning_at, turning_all}
use Rattle.rewrite.proofs.LeftSettled.{CoversBelow, together, up_to}
use Rattle.rewrite.proofs.SimplifiedParts.{filters_append, led_on, each_simplified, each_parted, parted_in_all}
use Rattle.rewrite.proofs.Tests.{all_alike}
use Rattle.rewrite.proofs.Turned.{turned_one}

-- ---- the entries of the first joins

none_below : (k : ℕ) → nat_lt k 0 ≡ false
none_below k = grind (arith, nat_tests)

joins_cover : (n : ℕ) → CoversBelow (joins n) n
joins_cover zero k = sym (none_below k)
joins_cover (suc zero) k = ap (λ b. b || (0 == k)) (sym (none_below k)) ∙ together 0 k
joins_cover (suc (suc n)) k = ap₂ ◌||◌ (joins_cover (suc n) k) refl ∙ together (suc n) k

-- a condition that names no later entry reads only these
reads_all : (n : ℕ) (e : BoundExpr) → reads_up_to n e ≡ true → reads_only (Joined (joins n) (guarded_entry n)) e ≡ true
reads_all n e h =
    all_alike (λ (id : ColumnId). covers (Joined (joins n) (guarded_entry n)) id.entry) (λ id. nat_le id.entry n) (λ id. ap₂ ◌||◌ (joins_cover n id.entry) refl ∙ together n id.entry ∙ sym (up_to n id.entry)) (columns e)
    ∙ h

next_joins : (n : ℕ) → 0 < n → Joined (joins n) (guarded_entry n) ≡ joins (suc n)
next_joins zero h = absurd (omega arith)
next_joins (suc n) h = refl

-- the entries from that one on are left joined
pub all_left : (n : ℕ) (ons : List BoundExpr) → left_joins n ons (joins n) ≡ all_joins (n + length ons) ons
all_left n ons = let e : n + length ons - length ons ≡ n = omega arith in ap (λ k. left_joins k ons (joins k)) (sym e)

-- ---- the condition that turns an entry, in its list

halves : {X : Type 0} (xs : List X) (i : ℕ) (d : X) → i < length xs → xs ≡ take i xs ++ get_or xs i d ∷ drop (suc i) xs
halves xs i d h = sym (take-append-drop i xs) ∙ ap (λ l. take i xs ++ l) (drop-cons xs i d h)

module _ (frame : List Guard) where
  -- an ON that is the last condition becomes its simplified parts
  on_parted : (on : BoundExpr) (es : List BoundExpr) (x : Term) → led frame (parting_on on) (Filtered on (filters es x)) ≡ Ok (filters (es ++ simplified_parts (parts_of on)) x)
  on_parted on es x =
      let y = filters es x in
      let ps = parts_of on in
      led_on frame (parting on) (simplifying_each ps ++ parting_each (map simplified ps)) (Filtered on y) (filters ps y) (filters (es ++ simplified_parts ps) x)
      (parted_in_all frame on y)
      (led_on frame (simplifying_each ps) (parting_each (map simplified ps)) (filters ps y) (filters (map simplified ps) y) (filters (es ++ simplified_parts ps) x)
      (each_simplified frame ps y)
      (each_parted frame (map simplified ps) y ∙ ap Ok (sym (filters_append es (simplified_parts ps) x))))

  module _ (n : ℕ) (some : 0 < n) (es : List BoundExpr) (on : BoundExpr) (ons : List BoundExpr) (on_reads : reads_up_to n on ≡ true) where
    turned_at : (i : ℕ) → first_turning n es ≡ Some i → led frame (turning_at es on (length ons) i) (filters es (left_joins n (on ∷ ons) (joins n))) ≡ Ok (filters (es ++ simplified_parts (parts_of on)) (left_joins (suc n) ons (joins (suc n))))
    turned_at i h =
        let found = position-Some (turns n) es i CurrentUser h in
        let f = get_or es i CurrentUser in
        let under = take i es in
        let after = drop (suc i) es in
        let whole : es ≡ under ++ f ∷ after = halves es i CurrentUser found.0 in
        let rejects : rejects_null_rows (λ k. n == k) f ≡ true = and_left (rejects_null_rows (λ k. n == k) f) (reads_up_to n f) found.1 in
        let reads : reads_up_to n f ≡ true = and_right (rejects_null_rows (λ k. n == k) f) (reads_up_to n f) found.1 in
        let x = left_joins n (on ∷ ons) (joins n) in
        led_on frame (turning (length es) i (length ons)) (parting_on on) (filters es x) (Filtered on (filters es (left_joins (suc n) ons (joins (suc n))))) _
        (ap (λ k. led frame (turning (length es) k (length ons)) (filters es x)) (sym (length-take-le i es (let within = found.0 in omega (arith, within))))
        ∙ ap (λ l. led frame (turning (length l) (length under) (length ons)) (filters l x)) whole
        ∙ turned_one frame n (joins n) on f ons rejects (reads_all n f reads) (reads_all n on on_reads) under after
        ∙ ap (λ l. Ok (Filtered on (filters l (left_joins (suc n) ons (Joined (joins n) (guarded_entry n)))))) (sym whole)
        ∙ ap (λ y. Ok (Filtered on (filters es (left_joins (suc n) ons y)))) (next_joins n some))
        (on_parted on es (left_joins (suc n) ons (joins (suc n))))

  pub all_turned : (ons : List BoundExpr) (n : ℕ) (es : List BoundExpr) → 0 < n → reach n ons ≡ true
      → led frame (turning_all n es ons) (filters es (left_joins n ons (joins n))) ≡ Ok (filters (turned n es ons).conditions (all_joins (n + length ons) (turned n es ons).lefts))
  all_turned [] n es some h = ap (λ x. Ok (filters es x)) (all_left n [])
  all_turned (on ∷ ons) n es some h =
      let on_reads = and_left (reads_up_to n on) (reach (suc n) ons) h in
      let next = es ++ simplified_parts (parts_of on) in
      let further = all_turned ons (suc n) next (omega arith) (and_right (reads_up_to n on) (reach (suc n) ons) h) in
      go (first_turning n es) refl on_reads further
    where
      more : List BoundExpr
      more = es ++ simplified_parts (parts_of on)

      go : (o : Option ℕ) → first_turning n es ≡ o → reads_up_to n on ≡ true
          → led frame (turning_all (suc n) more ons) (filters more (left_joins (suc n) ons (joins (suc n)))) ≡ Ok (filters (turned (suc n) more ons).conditions (all_joins (suc n + length ons) (turned (suc n) more ons).lefts))
          → led frame (unwrap_or (option_map (λ i. turning_at es on (length ons) i ++ turning_all (suc n) more ons) o) []) (filters es (left_joins n (on ∷ ons) (joins n)))
          ≡ Ok (filters (if is_some o then turned (suc n) more ons else record { conditions = es; lefts = on ∷ ons }).conditions (all_joins (n + length (on ∷ ons)) (if is_some o then turned (suc n) more ons else record { conditions = es; lefts = on ∷ ons }).lefts))
      go None e reads further = ap (λ x. Ok (filters es x)) (all_left n (on ∷ ons))
      go (Some i) e reads further =
          let count : suc n + length ons ≡ n + length (on ∷ ons) = omega arith in
          led_on frame (turning_at es on (length ons) i) (turning_all (suc n) more ons) (filters es (left_joins n (on ∷ ons) (joins n))) (filters more (left_joins (suc n) ons (joins (suc n)))) _
          (turned_at n some es on ons reads i e)
          (further ∙ ap (λ k. Ok (filters (turned (suc n) more ons).conditions (all_joins k (turned (suc n) more ons).lefts))) count)
