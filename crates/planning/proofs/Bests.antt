-- The codes that a plan may have are listed, and one before which none comes is the best of them.
use Rattle.std.proofs.Common.{◌≡◌, ℕ, zero, suc, ◌≤◌, inl, inr, Bool, true, false, not, ◌&&◌, ◌==◌, nat_le, List, [], ◌∷◌, ◌++◌, length, map, Option, Some, None, slice_get, Ordering, Less, Equal, Greater, refl, sym, ap, ◌∙◌, subst, arith}
use Rattle.std.specs.Cmp.{IsTotalOrder}
use Rattle.std.specs.List.{flat_map, range_with_len}
use Rattle.std.specs.Ordering.{nat_cmp, ordering_reverse, ordering_then}
use Rattle.std.proofs.lemmas.Bool.{and_parts, both_ways, eqb-true, leb-true}
use Rattle.std.proofs.lemmas.List.{take-append-drop}
use Rattle.std.proofs.lemmas.Cmp.{nat_cmp_total, nat_list_cmp_total, on_total, then_total}
use Rattle.std.proofs.lemmas.Map.Lookups.{exact_bytes}
use Rattle.expr.specs.declared.code.Access.{Access}
use Rattle.expr.specs.declared.code.Access.TheVariants.{Full, Index, Range}
use Rattle.expr.specs.declared.code.Method.{Method}
use Rattle.expr.specs.declared.code.Method.TheVariants.{Nested, Hash, Merge}
use Rattle.expr.specs.declared.code.CodeStep.{CodeStep}
use Rattle.expr.specs.Bound.{BoundExpr}
use Rattle.expr.specs.Codes.{Code, Empty, Steps, code_cmp, code_numbers}
use Rattle.expr.specs.Conjuncts.{conjuncts_of}
use Rattle.bags.proofs.Members.{Each}
use Rattle.trailcheck.specs.Admissible.{are_allowed_steps, are_left_steps, bounds, condition_at, equates, is_admissible, is_allowed_access, is_allowed_method, is_allowed_step, is_connected, is_full, is_indexed, is_left_method, is_left_step, is_listed, is_next, is_refuted, is_some_and}
use Rattle.trailcheck.specs.Entries.{is_among}
use Rattle.trailcheck.specs.Settings.{Setting, inner_count}
use Rattle.trailcheck.specs.Shapes.{entry_index, inner_steps, left_steps}
use Rattle.code_costs.specs.Best.{Problem, estimates}
use Rattle.code_costs.specs.Cost.{cost}
use Rattle.joindp.specs.Walks.{IsOneOf}
use Rattle.left_tails.proofs.BestTails.{numbered_within}
use Rattle.code_costs.proofs.Codes.{inner_many, is_code}
use Rattle.joindp.proofs.Followed.{numbered}
use Rattle.joindp.proofs.Elements.{from_filter, in_any, in_filter, in_flat_map, in_map, in_range, in_slice}
use Rattle.planning.specs.Best.{LeastIsBest, accesses, accesses_by, all_codes, best, by_cost, codes, condition_numbers, entry_numbers, left_methods, lists_of, methods, step_of, steps, tails}
use Rattle.planning.proofs.Members.{in_lists, least_found}
use Rattle.planning.proofs.Numbers.{same_steps}

-- ---- the steps of left joined entries are listed

left_method_in : (i : ℕ) (on : BoundExpr) (m : Method) → is_left_method i on m ≡ true → IsOneOf (left_methods on) m
left_method_in i on Nested h = inl refl
left_method_in i on (Hash n) h =
    let within = numbered_within (equates (range_with_len 0 i) i) (conjuncts_of on) n h in
    inr (in_map Hash (range_with_len 1 (length (conjuncts_of on))) n (in_range 1 (length (conjuncts_of on)) n within.0 within.1))
left_method_in i on (Merge n) h = absurd (cc)

left_step_is : (i : ℕ) (on : BoundExpr) (s : CodeStep) → is_left_step i on s ≡ true → (step_of (suc i) Full s.method ≡ s) × (is_left_method i on s.method ≡ true)
left_step_is i on s h = go s.access (and_parts (s.entry == suc i) (is_full s.access && is_left_method i on s.method) h)
  where
    go : (a : Access) → ((s.entry == suc i) ≡ true) × ((is_full a && is_left_method i on s.method) ≡ true) → (step_of (suc i) Full s.method ≡ step_of s.entry a s.method) × (is_left_method i on s.method ≡ true)
    go Full k = (ap (λ (n : ℕ). step_of n Full s.method) (sym (eqb-true s.entry (suc i) k.0)), k.1)
    go (Index column) k = absurd (cc)
    go (Range column bound) k = absurd (cc)

in_tails : (i : ℕ) (ons : List BoundExpr) (ss : List CodeStep) → are_left_steps i ons ss ≡ true → IsOneOf (tails i ons) ss
in_tails i [] [] h = inl refl
in_tails i [] (s ∷ ss) h = absurd (cc)
in_tails i (on ∷ ons) [] h = absurd (cc)
in_tails i (on ∷ ons) (s ∷ ss) h =
    let parts = and_parts (is_left_step i on s) (are_left_steps (suc i) ons ss) h in
    let step = left_step_is i on s parts.0 in
    let first = subst (IsOneOf (map (step_of (suc i) Full) (left_methods on))) step.0 (in_map (step_of (suc i) Full) (left_methods on) s.method (left_method_in i on s.method step.1)) in
    in_flat_map (λ (t : CodeStep). map (λ (ts : List CodeStep). t ∷ ts) (tails (suc i) ons)) (map (step_of (suc i) Full) (left_methods on)) s (s ∷ ss) first (in_map (λ (ts : List CodeStep). s ∷ ts) (tails (suc i) ons) ss (in_tails (suc i) ons ss parts.1))

-- ---- every code that a plan may have is listed

module _ (at : Setting) where
  columns_of : (column : ℕ) (o : Option (List ℕ)) → is_listed column o ≡ true → (columns : List ℕ) × (o ≡ Some columns) × IsOneOf columns column
  columns_of column None h = absurd (cc)
  columns_of column (Some columns) h = (columns, refl, in_any columns column h)

  -- an access by an index on a column of the entry
  indexed_in : (entry column : ℕ) → is_indexed at entry column ≡ true → (access : Access) → IsOneOf (accesses_by at column) access → IsOneOf (accesses at) access
  indexed_in entry column h access k =
      let c = columns_of column (slice_get at.indexed entry) h in
      inr (in_flat_map (λ columns. flat_map (accesses_by at) columns) at.indexed c.0 access (in_slice at.indexed entry c.0 c.1) (in_flat_map (accesses_by at) c.0 column access c.2 k))

  access_in : (entry : ℕ) (access : Access) → is_allowed_access at entry access ≡ true → IsOneOf (accesses at) access
  access_in entry Full h = inl refl
  access_in entry (Index column) h = indexed_in entry column h (Index column) (inl refl)
  access_in entry (Range column bound) h =
      let parts = and_parts (is_indexed at entry column) (is_some_and (bounds entry column) (condition_at at bound)) h in
      indexed_in entry column parts.0 (Range column bound) (inr (in_map (Range column) (condition_numbers at) bound (numbered at (bounds entry column) bound parts.1)))

  joining_in : (number : ℕ) (method : Method) → IsOneOf (condition_numbers at) number → IsOneOf (Hash number ∷ Merge number ∷ []) method → IsOneOf (methods at) method
  joining_in number method h k = inr (in_flat_map (λ (n : ℕ). Hash n ∷ Merge n ∷ []) (condition_numbers at) number method h k)

  method_in : (placed : List ℕ) (entry : ℕ) (method : Method) → is_allowed_method at placed entry method ≡ true → IsOneOf (methods at) method
  method_in placed entry Nested h = inl refl
  method_in placed entry (Hash conjunct) h = joining_in conjunct (Hash conjunct) (numbered at (equates placed entry) conjunct h) (inl refl)
  method_in placed entry (Merge conjunct) h = joining_in conjunct (Merge conjunct) (numbered at (equates placed entry) conjunct h) (inr (inl refl))

  step_listed : (s : CodeStep) → IsOneOf (entry_numbers at) s.entry → IsOneOf (accesses at) s.access → IsOneOf (methods at) s.method → IsOneOf (steps at) s
  step_listed s entry access method =
      in_flat_map (λ (e : ℕ). flat_map (λ (a : Access). map (step_of e a) (methods at)) (accesses at)) (entry_numbers at) s.entry s entry
      (in_flat_map (λ (a : Access). map (step_of s.entry a) (methods at)) (accesses at) s.access s access (in_map (step_of s.entry s.access) (methods at) s.method method))

  step_in : (placed : List ℕ) (s : CodeStep) → is_allowed_step at placed s ≡ true → IsOneOf (steps at) s
  step_in placed s h =
      let i : ℕ = entry_index s in
      let whole = and_parts (is_next at placed s && is_connected at placed i) (is_allowed_access at i s.access && is_allowed_method at placed i s.method) h in
      let next = and_parts (is_next at placed s) (is_connected at placed i) whole.0 in
      let place = and_parts (nat_le 1 s.entry && nat_le s.entry (inner_count at)) (not (is_among placed i)) next.0 in
      let range = and_parts (nat_le 1 s.entry) (nat_le s.entry (inner_count at)) place.0 in
      let way = and_parts (is_allowed_access at i s.access) (is_allowed_method at placed i s.method) whole.1 in
      let last : s.entry ≤ inner_count at = leb-true s.entry (inner_count at) range.1 in
      step_listed s (in_range 1 (inner_count at) s.entry (leb-true 1 s.entry range.0) (omega arith)) (access_in i s.access way.0) (method_in placed i s.method way.1)

  steps_in : (placed : List ℕ) (ss : List CodeStep) → are_allowed_steps at placed ss ≡ true → Each (IsOneOf (steps at)) ss
  steps_in placed [] h = tt
  steps_in placed (s ∷ ss) h =
      let parts = and_parts (is_allowed_step at placed s) (are_allowed_steps at (placed ++ entry_index s ∷ []) ss) h in
      (step_in placed s parts.0, steps_in (placed ++ entry_index s ∷ []) ss parts.1)

  listed : (code : Code) → is_admissible at code ≡ true → IsOneOf (all_codes at) code
  listed Empty h = inl refl
  listed (Steps us) h =
      let code = is_code at us h in
      let inner = inner_steps at us in
      let left = left_steps at us in
      let of = λ (ss : List CodeStep). map (λ (ts : List CodeStep). Steps (ss ++ ts)) (tails (inner_count at) at.lefts) in
      let lists = lists_of (inner_count at) (steps at) in
      inr (subst (λ (vs : List CodeStep). IsOneOf (flat_map of lists) (Steps vs)) (take-append-drop (inner_count at) us)
      (in_flat_map of lists inner (Steps (inner ++ left)) (in_lists (inner_count at) (steps at) inner (inner_many at us code.long) (steps_in [] inner code.inner))
      (in_map (λ (ts : List CodeStep). Steps (inner ++ ts)) (tails (inner_count at) at.lefts) left (in_tails (inner_count at) at.lefts left code.left))))

  pub code_in : (code : Code) → is_admissible at code ≡ true → IsOneOf (codes at) code
  code_in code h = in_filter (is_admissible at) (all_codes at) code (listed code h) h

  -- ---- codes that a plan may have, with the same numbers, are the same

  not_refuted : (ss : List CodeStep) → is_admissible at (Steps ss) ≡ true → is_refuted at ≡ false
  not_refuted ss h = (is_code at ss h).not_refuted

  same_code : (code other : Code) → is_admissible at code ≡ true → is_admissible at other ≡ true → code_numbers code ≡ code_numbers other → code ≡ other
  same_code Empty Empty h k e = refl
  same_code Empty (Steps ts) h k e = absurd (both_ways (is_refuted at) (not_refuted ts k) h)
  same_code (Steps ss) Empty h k e = absurd (both_ways (is_refuted at) (not_refuted ss h) k)
  same_code (Steps ss) (Steps ts) h k e = ap Steps (same_steps ss ts e)

-- ---- the order of codes

second_equal : (o r : Ordering) → ordering_then o r ≡ Equal → r ≡ Equal
second_equal Less r e = absurd (cc)
second_equal Equal r e = e
second_equal Greater r e = absurd (cc)

module _ (p : Problem) where
  by_cost_total : IsTotalOrder (by_cost p)
  by_cost_total = then_total (on_total (cost (estimates p)) nat_cmp_total) (on_total code_numbers nat_list_cmp_total)

  turned : (code other : Code) → by_cost p code other ≡ Greater → by_cost p other code ≡ Less
  turned code other e = let total = by_cost_total in total.antisymm other code ∙ ap ordering_reverse e

  same_numbers : (code other : Code) → by_cost p code other ≡ Equal → code_numbers code ≡ code_numbers other
  same_numbers code other e = exact_bytes (code_numbers code) (code_numbers other) (second_equal (nat_cmp (cost (estimates p) code) (cost (estimates p) other)) (code_cmp code other) e)

-- ---- the best

pub least_is_best : LeastIsBest
unfolding best
least_is_best p code may least =
    let at : Setting = p.setting in
    let may_be : (other : Code) → IsOneOf (codes at) other → is_admissible at other ≡ true =
    λ other h. (from_filter (is_admissible at) (all_codes at) other h).1 in
    least_found (by_cost p) (turned p) code (codes at) (code_in at code may) (λ other h. least other (may_be other h)) (λ other h e. same_code at other code (may_be other h) may (same_numbers p other code e))
