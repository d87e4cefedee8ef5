-- The text of an admissible code: entries and columns by their names, and numbers of 64 bits.
use Rattle.std.proofs.Common.{◌≡◌, ◌∙◌, ℕ, zero, suc, ◌+◌, ◌<◌, ◌≤◌, ◌^◌, ◌==◌, nat_le, nat_lt, Bool, true, false, not, ◌&&◌, List, [], ◌∷◌, ◌++◌, map, length, Option, Some, None, refl, sym, ap, subst, arith}
use Rattle.std.specs.List.{AllByRecursion, range_with_len, slice_get}
use Rattle.std.proofs.lemmas.Bool.{and_parts, both_ways, eqb-true, leb-true}
use Rattle.std.proofs.lemmas.Bool.Decides.{nat_tests}
use Rattle.std.proofs.lemmas.List.{length-take, map-append, take-append-drop}
use Rattle.expr.specs.declared.bound.ColumnId.{ColumnId}
use Rattle.expr.specs.declared.code.Access.{Access}
use Rattle.expr.specs.declared.code.Access.TheVariants.{Full, Index, Range}
use Rattle.expr.specs.declared.code.Method.{Method}
use Rattle.expr.specs.declared.code.Method.TheVariants.{Nested, Hash, Merge}
use Rattle.expr.specs.declared.code.CodeStep.{CodeStep}
use Rattle.expr.specs.Bound.{BoundExpr}
use Rattle.expr.specs.Codes.{Code, Empty, Steps}
use Rattle.expr.specs.Conjuncts.{conjuncts_of}
use Rattle.predicates.specs.Equalities.{column_sides}
use Rattle.predicates.specs.Numbered.{numbered}
use Rattle.trailcheck.specs.Admissible.{are_across, are_allowed_steps, are_left_steps, bounds, condition_at, equates, is_admissible, is_allowed_access, is_allowed_method, is_allowed_step, is_connected, is_full, is_indexed, is_left_method, is_left_step, is_next, is_refuted, is_some_and}
use Rattle.trailcheck.specs.Entries.{is_among}
use Rattle.trailcheck.specs.Settings.{Setting, inner_count}
use Rattle.trailcheck.specs.Shapes.{entry_index, inner_steps, left_steps}
use Rattle.plan_texts.specs.Plans as plan_texts
use Rattle.plan_texts.specs.Plans.{PlanEntry}
use Rattle.plan_texts.specs.declared.plan.PlanStep.{PlanStep}
use Rattle.bound_plans.specs.LeftJoins.{marked_code, marked_step}
use Rattle.plan_texts.specs.Reading.{AreAll, HasColumn, HasEntry, IsAccess, IsCode, IsFirst, IsJoin, IsMethod, IsScan}

-- a number with a condition is one of them
number_within : (test : BoundExpr → Bool) (es : List BoundExpr) (number : ℕ) → is_some_and test (numbered es number) ≡ true → number ≤ length es
number_within test es zero h = omega arith
number_within test es (suc k) h = go es k h
  where
    go : (es : List BoundExpr) (k : ℕ) → is_some_and test (slice_get es k) ≡ true → suc k ≤ length es
    go [] k h = absurd (cc)
    go (e ∷ es) zero h = omega arith
    go (e ∷ es) (suc k) h = let n = go es k h in omega (arith, n)

and_false : (b : Bool) → b && false ≡ true → ⊥
and_false true h = cc
and_false false h = cc

-- nothing is joined to no entry
none_across : (entry : ℕ) (o : Option (ColumnId × ColumnId)) → are_across [] entry o ≡ true → ⊥
none_across entry None h = cc
none_across entry (Some (a, b)) h = and_false (a.entry == entry) h

none_equates : (entry : ℕ) (o : Option BoundExpr) → is_some_and (equates [] entry) o ≡ true → ⊥
none_equates entry None h = cc
none_equates entry (Some e) h = none_across entry (column_sides e) h

-- what is known of the steps of an admissible code
module _ (at : Setting) (ss : List CodeStep) (h : is_admissible at (Steps ss) ≡ true) where
  abbrev steps_allowed : Bool
  steps_allowed = are_allowed_steps at [] (inner_steps at ss)

  abbrev lefts_allowed : Bool
  lefts_allowed = are_left_steps (inner_count at) at.lefts (left_steps at ss)

  both_allowed : (length ss == length at.frame) && (steps_allowed && lefts_allowed) ≡ true
  both_allowed = (and_parts (not (is_refuted at)) ((length ss == length at.frame) && (steps_allowed && lefts_allowed)) h).1

  steps_many : length ss ≡ length at.frame
  steps_many = eqb-true (length ss) (length at.frame) (and_parts (length ss == length at.frame) (steps_allowed && lefts_allowed) both_allowed).0

  steps_are : (steps_allowed ≡ true) × (lefts_allowed ≡ true)
  steps_are = and_parts steps_allowed lefts_allowed (and_parts (length ss == length at.frame) (steps_allowed && lefts_allowed) both_allowed).1

-- a code has as many steps as there are entries
pub as_many_steps : (at : Setting) (code : Code) → is_admissible at code ≡ true → (ss : List CodeStep) → code ≡ Steps ss → length ss ≤ length at.frame
as_many_steps at code h ss is = let many = steps_many at ss (subst (λ c. is_admissible at c ≡ true) is h) in omega (arith, many)

module _ (at : Setting) (entries : List PlanEntry) (few : length at.conditions < 2 ^ 64) (named : (i : ℕ) → i < length at.frame → HasEntry entries (suc i))
    (found : (i column : ℕ) → i < length at.frame → is_indexed at i column ≡ true → HasColumn entries (suc i) column) where
  access_sound : (i : ℕ) (a : Access) → i < length at.frame → is_allowed_access at i a ≡ true → IsAccess entries (suc i) a
  access_sound i Full l h = tt
  access_sound i (Index column) l h = found i column l h
  access_sound i (Range column bound) l h =
      let parts = and_parts (is_indexed at i column) (is_some_and (bounds i column) (condition_at at bound)) h in
      (found i column l parts.0, let n = number_within (bounds i column) at.conditions bound parts.1 in omega (arith, n, few))

  method_sound : (placed : List ℕ) (i : ℕ) (m : Method) → is_allowed_method at placed i m ≡ true → IsMethod entries m
  method_sound placed i Nested h = tt
  method_sound placed i (Hash k) h = let n = number_within (equates placed i) at.conditions k h in omega (arith, n, few)
  method_sound placed i (Merge k) h = let n = number_within (equates placed i) at.conditions k h in omega (arith, n, few)

  first_nested : (i : ℕ) (m : Method) → is_allowed_method at [] i m ≡ true → m ≡ Nested
  first_nested i Nested h = refl
  first_nested i (Hash k) h = absurd (none_equates i (condition_at at k) h)
  first_nested i (Merge k) h = absurd (none_equates i (condition_at at k) h)

  module _ (placed : List ℕ) (s : CodeStep) (h : is_allowed_step at placed s ≡ true) where
    -- the parts of an allowed step
    places : (is_next at placed s && is_connected at placed (entry_index s) ≡ true) × (is_allowed_access at (entry_index s) s.access && is_allowed_method at placed (entry_index s) s.method ≡ true)
    places = and_parts (is_next at placed s && is_connected at placed (entry_index s)) (is_allowed_access at (entry_index s) s.access && is_allowed_method at placed (entry_index s) s.method) h

    ways : (is_allowed_access at (entry_index s) s.access ≡ true) × (is_allowed_method at placed (entry_index s) s.method ≡ true)
    ways = and_parts (is_allowed_access at (entry_index s) s.access) (is_allowed_method at placed (entry_index s) s.method) places.1

    within : (1 ≤ s.entry) × (s.entry ≤ inner_count at)
    within =
        let next = and_parts (is_next at placed s) (is_connected at placed (entry_index s)) places.0 in
        let place = and_parts (nat_le 1 s.entry && nat_le s.entry (inner_count at)) (not (is_among placed (entry_index s))) next.0 in
        let range = and_parts (nat_le 1 s.entry) (nat_le s.entry (inner_count at)) place.0 in
        (leb-true 1 s.entry range.0, leb-true s.entry (inner_count at) range.1)

    scan_sound : IsScan entries s
    scan_sound =
        let w = within in
        let own : suc (entry_index s) ≡ s.entry = omega (arith, w.0) in
        let l : entry_index s < length at.frame = omega (arith, w.0, w.1) in
        (subst (HasEntry entries) own (named (entry_index s) l), subst (λ n. IsAccess entries n s.access) own (access_sound (entry_index s) s.access l ways.0))

    -- its method and its scan have a text
    join_sound : IsMethod entries s.method × IsScan entries s
    join_sound = (method_sound placed (entry_index s) s.method ways.1, scan_sound)

    -- it has no word
    no_word : nat_lt (inner_count at) s.entry ≡ false
    no_word = let w = within.1 in grind (arith, nat_tests, w)

  -- ---- with the words of left joins

  abbrev marked : CodeStep → PlanStep
  marked s = marked_step (inner_count at) s

  first_sound : (s : CodeStep) → is_allowed_step at [] s ≡ true → IsFirst entries (marked s)
  first_sound s h = (no_word [] s h, first_nested (entry_index s) s.method (ways [] s h).1, scan_sound [] s h)

  marked_sound : (placed : List ℕ) (s : CodeStep) → is_allowed_step at placed s ≡ true → IsJoin entries (marked s)
  marked_sound placed s h = (λ is. absurd (both_ways (nat_lt (inner_count at) s.entry) (no_word placed s h) is), (join_sound placed s h).0, (join_sound placed s h).1)

  joins_sound : (placed : List ℕ) (ss : List CodeStep) → are_allowed_steps at placed ss ≡ true → AreAll (IsJoin entries) (map marked ss)
  joins_sound placed [] h = tt
  joins_sound placed (s ∷ ss) h =
      let parts = and_parts (is_allowed_step at placed s) (are_allowed_steps at (placed ++ entry_index s ∷ []) ss) h in
      (marked_sound placed s parts.0, joins_sound (placed ++ entry_index s ∷ []) ss parts.1)

  full_is : (a : Access) → is_full a ≡ true → a ≡ Full
  full_is Full h = refl
  full_is (Index column) h = absurd (cc)
  full_is (Range column bound) h = absurd (cc)

  left_method : (i : ℕ) (on : BoundExpr) (m : Method) → length (conjuncts_of on) < 2 ^ 64 → is_left_method i on m ≡ true → IsMethod entries m × ((k : ℕ) → m ≡ Merge k → ⊥)
  left_method i on Nested l h = (tt, λ k e. cc)
  left_method i on (Hash k) l h = (let n = number_within (equates (range_with_len 0 i) i) (conjuncts_of on) k h in omega (arith, n, l), λ j e. cc)
  left_method i on (Merge k) l h = absurd (cc)

  left_sound : (i : ℕ) (on : BoundExpr) (s : CodeStep) → i < length at.frame → length (conjuncts_of on) < 2 ^ 64 → is_left_step i on s ≡ true → IsJoin entries (marked s)
  left_sound i on s l few_members h =
      let parts = and_parts (s.entry == suc i) (is_full s.access && is_left_method i on s.method) h in
      let ways = and_parts (is_full s.access) (is_left_method i on s.method) parts.1 in
      let own : suc i ≡ s.entry = sym (eqb-true s.entry (suc i) parts.0) in
      let full = full_is s.access ways.0 in
      let method = left_method i on s.method few_members ways.1 in
      (λ is. record { full = full; no_merge = method.1 }, method.0, (subst (HasEntry entries) own (named i l), subst (λ a. IsAccess entries s.entry a) (sym full) tt))

  lefts_sound : (i : ℕ) (ons : List BoundExpr) (ss : List CodeStep) → i + length ons ≤ length at.frame → AllByRecursion (λ on. length (conjuncts_of on) < 2 ^ 64) ons → are_left_steps i ons ss ≡ true → AreAll (IsJoin entries) (map marked ss)
  lefts_sound i [] [] l few_members h = tt
  lefts_sound i [] (s ∷ ss) l few_members h = absurd (cc)
  lefts_sound i (on ∷ ons) [] l few_members h = absurd (cc)
  lefts_sound i (on ∷ ons) (s ∷ ss) l few_members h =
      let parts = and_parts (is_left_step i on s) (are_left_steps (suc i) ons ss) h in
      (left_sound i on s (omega (arith, l)) few_members.0 parts.0, lefts_sound (suc i) ons ss (omega (arith, l)) few_members.1 parts.1)

  all_and : (xs ys : List PlanStep) → AreAll (IsJoin entries) xs → AreAll (IsJoin entries) ys → AreAll (IsJoin entries) (xs ++ ys)
  all_and [] ys h k = k
  all_and (x ∷ xs) ys h k = (h.0, all_and xs ys h.1 k)

  -- the first ones and those of left joins
  whole_sound : (inner lefts : List CodeStep) → 0 < length inner → are_allowed_steps at [] inner ≡ true → AreAll (IsJoin entries) (map marked lefts) → IsCode entries (plan_texts.Steps (map marked inner ++ map marked lefts))
  whole_sound [] lefts some h k = absurd (omega (arith, some))
  whole_sound (s ∷ ss) lefts some h k =
      let parts = and_parts (is_allowed_step at [] s) (are_allowed_steps at ([] ++ entry_index s ∷ []) ss) h in
      (first_sound s parts.0, all_and (map marked ss) (map marked lefts) (joins_sound ([] ++ entry_index s ∷ []) ss parts.1) k)

  pub code_sound : length at.lefts < length at.frame → AllByRecursion (λ on. length (conjuncts_of on) < 2 ^ 64) at.lefts → (code : Code) → is_admissible at code ≡ true → IsCode entries (marked_code (inner_count at) code)
  code_sound among few_members Empty h = tt
  code_sound among few_members (Steps ss) h =
      let many = steps_many at ss h in
      let are = steps_are at ss h in
      let some : 0 < length (inner_steps at ss) = let t = length-take (inner_count at) ss in omega (arith, t, many, among) in
      let lefts = lefts_sound (inner_count at) at.lefts (left_steps at ss) (omega (arith, among)) few_members are.1 in
      subst (λ l. IsCode entries (plan_texts.Steps l)) (sym (map-append marked (inner_steps at ss) (left_steps at ss)) ∙ ap (map marked) (take-append-drop (inner_count at) ss))
      (whole_sound (inner_steps at ss) (left_steps at ss) some are.0 lefts)
