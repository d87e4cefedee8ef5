-- A list of placed entries and the set of them: the same steps may follow both.
use Rattle.std.proofs.Common.{◌≡◌, ◌∙◌, refl, sym, ap, ap₂, subst, ℕ, ◌+◌, ◌-◌, ◌^◌, ◌<◌, ◌≤◌, ◌⊎◌, inl, inr, Bool, true, false, ◌&&◌, ◌||◌, not, ◌==◌, nat_eq, nat_le, List, [], ◌∷◌, ◌++◌, length, Option, Some, None, arith, length-append, zero-add}
use mathlib.Core.Path.{fun_ext}
use Rattle.std.specs.Int.{bit_at}
use Rattle.std.specs.List.{AllByRecursion, IsDistinct, list_any}
use Rattle.std.proofs.lemmas.Bool.{eqb-true, lt-ltb, or_cases, or_parts}
use Rattle.std.proofs.lemmas.Cmp.{nat_eq_equiv}
use Rattle.std.proofs.lemmas.Map.Keys.{IsDistinct-cons}
use Rattle.std.proofs.lemmas.Map.Steps.{le-length_from_below, length-le_from_distinct_below}
use Rattle.expr.specs.declared.bound.ColumnId.{ColumnId}
use Rattle.expr.specs.declared.code.Method.{Method}
use Rattle.expr.specs.declared.code.Method.TheVariants.{Nested, Hash, Merge}
use Rattle.expr.specs.declared.code.CodeStep.{CodeStep}
use Rattle.expr.specs.Bound.{BoundExpr}
use Rattle.predicates.specs.Equalities.{column_sides}
use Rattle.stats.specs.Card.{Entries}
use Rattle.std.proofs.lemmas.Nat.{pow_pos}
use Rattle.stats.proofs.EntrySets.{all_bits_set, bits_of_all, set_within}
use Rattle.trailcheck.specs.Admissible.{is_some_and, are_across, equates, condition_at, is_connected, is_next, is_allowed_access, is_allowed_method, is_allowed_step}
use Rattle.trailcheck.specs.Entries.{is_among}
use Rattle.trailcheck.specs.Settings.{Setting, inner_count}
use Rattle.trailcheck.specs.Shapes.{entry_index}
use Rattle.trailcheck.proofs.Placed.{among_more}
use Rattle.joindp.specs.Following.{span, equates_with, may_join_by, may_be_next, may_follow}
use Rattle.joindp.specs.Search.{set_of}
use Rattle.joindp.proofs.OneBit.{no_bit, one_more_bit}

-- ---- tests over a list and over its set

same_across : (placed : List ℕ) (entry : ℕ) (o : Option (ColumnId × ColumnId)) → are_across placed entry o ≡ span (is_among placed) entry o
same_across placed entry None = refl
same_across placed entry (Some ids) = refl

same_equality : (placed : List ℕ) (entry : ℕ) (o : Option BoundExpr) → is_some_and (equates placed entry) o ≡ is_some_and (equates_with (is_among placed) entry) o
same_equality placed entry None = refl
same_equality placed entry (Some e) = same_across placed entry (column_sides e)

same_method : (at : Setting) (placed : List ℕ) (entry : ℕ) (m : Method) → is_allowed_method at placed entry m ≡ may_join_by at (is_among placed) entry m
same_method at placed entry Nested = refl
same_method at placed entry (Hash k) = same_equality placed entry (condition_at at k)
same_method at placed entry (Merge k) = same_equality placed entry (condition_at at k)

regrouped : (a b c : Bool) → (a && b) && c ≡ a && (b && c)
regrouped true b c = refl
regrouped false b c = refl

same_order : (at : Setting) (placed : List ℕ) (s : CodeStep) → is_next at placed s && is_connected at placed (entry_index s) ≡ (nat_le 1 s.entry && nat_le s.entry (inner_count at)) && may_be_next at (is_among placed) (entry_index s)
same_order at placed s = regrouped (nat_le 1 s.entry && nat_le s.entry (inner_count at)) (not (is_among placed (entry_index s))) (is_connected at placed (entry_index s))

-- the same steps may follow a list and its members
same_steps : (at : Setting) (placed : List ℕ) (s : CodeStep) → is_allowed_step at placed s ≡ may_follow at (is_among placed) s
same_steps at placed s =
    ap (λ b. b && (is_allowed_access at (entry_index s) s.access && is_allowed_method at placed (entry_index s) s.method)) (same_order at placed s)
    ∙ ap (λ b. ((nat_le 1 s.entry && nat_le s.entry (inner_count at)) && may_be_next at (is_among placed) (entry_index s)) && (is_allowed_access at (entry_index s) s.access && b)) (same_method at placed (entry_index s) s.method)

pub same_steps_of : (at : Setting) (placed : List ℕ) (entries : Entries) → ((i : ℕ) → is_among placed i ≡ entries i) → (s : CodeStep) → is_allowed_step at placed s ≡ may_follow at entries s
same_steps_of at placed entries same s = same_steps at placed s ∙ ap (λ (e : Entries). may_follow at e s) (fun_ext same)

-- ---- lists of numbers of which none is there twice

turned : (js : List ℕ) (k : ℕ) → list_any (nat_eq k) js ≡ is_among js k
turned [] k = refl
turned (j ∷ js) k = ap₂ (λ a b. a || b) (nat_eq_equiv.symm k j) (turned js k)

-- where each number below n is there, there are as many
pub many_where_all : (n : ℕ) (js : List ℕ) → ((k : ℕ) → k < n → is_among js k ≡ true) → n ≤ length js
many_where_all n js each = le-length_from_below js n (λ k below. turned js k ∙ each k below)

-- numbers below n are no more
few_below : (n : ℕ) (js : List ℕ) → IsDistinct nat_eq js → ((k : ℕ) → is_among js k ≡ true → k < n) → length js ≤ n
few_below n js distinct below = length-le_from_distinct_below js n distinct (λ k there. below k (sym (turned js k) ∙ there))

none_distinct : IsDistinct nat_eq []
unfolding IsDistinct
none_distinct = tt

-- one more that is not there
distinct_more : (i : ℕ) (js : List ℕ) → is_among js i ≡ false → IsDistinct nat_eq js → IsDistinct nat_eq (i ∷ js)
distinct_more i js new distinct = IsDistinct-cons nat_eq i js (others js new) distinct
  where
    others : (ks : List ℕ) → is_among ks i ≡ false → AllByRecursion (λ k. nat_eq i k ≡ false) ks
    others [] e = tt
    others (k ∷ ks) e = let parts = or_parts (k == i) (is_among ks i) e in (nat_eq_equiv.symm i k ∙ parts.0, others ks parts.1)

below_more : (n i : ℕ) (js : List ℕ) → i < n → ((k : ℕ) → is_among js k ≡ true → k < n) → (k : ℕ) → is_among (i ∷ js) k ≡ true → k < n
below_more n i js first others k there = go (or_cases (i == k) (is_among js k) there)
  where
    go : ((i == k) ≡ true) ⊎ (is_among js k ≡ true) → k < n
    go (inl same) = let e = eqb-true i k same in omega (arith, e, first)
    go (inr among) = others k among

-- as many as there are numbers below n are all of them
each_there : (n : ℕ) (js : List ℕ) → IsDistinct nat_eq js → ((k : ℕ) → is_among js k ≡ true → k < n) → length js ≡ n → (k : ℕ) → k < n → is_among js k ≡ true
each_there n js distinct below full k within = go (is_among js k) refl
  where
    go : (b : Bool) → is_among js k ≡ b → is_among js k ≡ true
    go true e = e
    go false e = let more = few_below n (k ∷ js) (distinct_more k js e distinct) (below_more n k js within below) in absurd (omega (arith, more, full))

-- ---- a list of placed entries and the bits of their set

-- the bits are those of the entries of the list; js are these, each once
pub record IsPlaced (n : ℕ) (placed : List ℕ) (set : ℕ) : Type 0 where
  pub js : List ℕ
  pub long : length js ≡ length placed
  pub same : (k : ℕ) → is_among placed k ≡ is_among js k
  pub bits : (k : ℕ) → is_among placed k ≡ set_of set k
  pub distinct : IsDistinct nat_eq js
  pub below : (k : ℕ) → is_among js k ≡ true → k < n
  pub within : set < 2 ^ n

-- a list with one entry more
pub placed_more : (n : ℕ) (placed : List ℕ) (set i : ℕ) → n ≤ 64 → IsPlaced n placed set → i < n → set_of set i ≡ false → IsPlaced n (placed ++ i ∷ []) (set + 2 ^ i)
placed_more n placed set i few h below new = record {
  js = i ∷ h.js;
  long = let l = length-append placed (i ∷ []) in omega (arith, l, h.long);
  same = λ k. among_more placed i k ∙ ap (λ b. (i == k) || b) (h.same k);
  bits = λ k. among_more placed i k ∙ ap (λ b. (i == k) || b) (h.bits k) ∙ sym (one_more_bit set i k (omega arith) new);
  distinct = distinct_more i h.js (sym (h.same i) ∙ h.bits i ∙ new) h.distinct;
  below = below_more n i h.js below h.below;
  within = set_within n set i h.within below new;
}

-- no entry
placed_none : (n : ℕ) → IsPlaced n [] 0
placed_none n = record { js = []; long = refl; same = λ k. refl; bits = λ k. sym (no_bit k); distinct = none_distinct; below = λ k m. absurd (cc); within = pow_pos n }

-- the first entry
pub placed_first : (n i : ℕ) → n ≤ 64 → i < n → IsPlaced n (i ∷ []) (2 ^ i)
placed_first n i few below = subst (IsPlaced n (i ∷ [])) (zero-add (2 ^ i)) (placed_more n [] 0 i few (placed_none n) below (no_bit i))

module _ (n : ℕ) (placed : List ℕ) (set : ℕ) (h : IsPlaced n placed set) where
  -- where as many are placed as there are, all bits are set
  pub all_placed : length placed ≡ n → set + 1 ≡ 2 ^ n
  all_placed full =
      let each : (k : ℕ) → k < n → set_of set k ≡ true = λ k below. sym (h.bits k) ∙ h.same k ∙ each_there n h.js h.distinct h.below (h.long ∙ full) k below in
      let e = all_bits_set n set h.within each in
      let p = pow_pos n in
      omega (arith, e, p)

  -- and the other way round
  pub as_many_placed : set + 1 ≡ 2 ^ n → length placed ≡ n
  as_many_placed whole =
      let all : set ≡ 2 ^ n - 1 = omega arith in
      let each : (k : ℕ) → k < n → is_among h.js k ≡ true = λ k below. sym (h.same k) ∙ h.bits k ∙ ap (λ m. bit_at m k == 1) all ∙ bits_of_all n k ∙ lt-ltb k n below in
      let a = many_where_all n h.js each in
      let b = few_below n h.js h.distinct h.below in
      omega (arith, a, b, h.long)
