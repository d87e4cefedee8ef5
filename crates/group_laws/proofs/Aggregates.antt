-- An aggregate of values of a type gives a value of its type by the rules, or null.
use Rattle.std.proofs.Common.{◌≡◌, inl, inr, ℕ, ℤ, pos, Bool, true, false, List, [], ◌∷◌, length, map, Option, Some, None, Result, Ok, Err, refl, sym, subst}
use Rattle.std.specs.Prelude.{IfSome, if◌then◌else◌}
use Rattle.std.specs.List.{All}
use Rattle.std.specs.declared.cmp.Ordering.{Ordering}
use Rattle.std.specs.Ordering.{is_gt}
use Rattle.std.proofs.lemmas.List.Elements.{All-filter, All-head, All-map, All-tail}
use Rattle.memory.proofs.Cases.{ok_is}
use Rattle.bags.specs.Least.{least, lesser}
use Rattle.value.specs.Datum.{Datum, Row, null, int, text, bool}
use Rattle.value.specs.Exact.{in_range}
use Rattle.value.specs.Names.{Name}
use Rattle.value.specs.Orders.{datum_cmp}
use Rattle.value.specs.declared.operators.Aggregate.{Aggregate}
use Rattle.value.specs.declared.operators.Aggregate.TheVariants.{Count, Sum, Min, Max}
use Rattle.value.specs.declared.types.ColType.TheVariants.{Bigint}
use Rattle.value.specs.declared.types.FaultKind.{FaultKind}
use Rattle.expr.specs.declared.bound.ColumnId.{ColumnId}
use Rattle.expr.specs.Bound.{BoundExpr}
use Rattle.eval.specs.Meaning.{Cells, Outcome, meaning}
use Rattle.scope.specs.Entry.{Entry}
use Rattle.typing.specs.Typing.{TypeOf}
use Rattle.type_laws.specs.Laws.{GivesType, call_of}
use Rattle.type_laws.specs.Rules.{HasType, IsAggregateType, IsOfType}
use Rattle.tuples.specs.Combinations.{Combination, joined_cells}
use Rattle.groups.specs.Aggregates.{aggregate_of, descending_cmp, exact_sum, number_at, or_null}
use Rattle.groups.specs.ClassValues.{argument_values, class_of, value_in}
use Rattle.groups.specs.Groups.{same_key}
use Rattle.groups.specs.Members.{key_on}
use Rattle.group_laws.proofs.Kept.{all_kept}

-- ---- counts and sums

number_fits : (offset : ℕ) (r : Result ℤ FaultKind) (d : Datum) → number_at offset r ≡ Ok d → HasType (Some Bigint) d
number_fits offset (Ok n) d e = subst (HasType (Some Bigint)) (ok_is (int n) d e) (inr refl)
number_fits offset (Err kind) d e = absurd (cc)

-- ---- the least of values of a type

module _ (t : TypeOf) where
  lesser_fits : (cmp : Datum → Datum → Ordering) (o p : Option Datum) → IfSome o (HasType t) → IfSome p (HasType t) → IfSome (lesser cmp o p) (HasType t)
  lesser_fits cmp None p h k = k
  lesser_fits cmp (Some x) None h k = h
  lesser_fits cmp (Some x) (Some y) h k = go (is_gt (cmp x y))
    where
      go : (b : Bool) → HasType t (if b then y else x)
      go true = k
      go false = h

  least_fits : (cmp : Datum → Datum → Ordering) (ds : List Datum) → All (HasType t) ds → IfSome (least cmp ds) (HasType t)
  least_fits cmp [] h = tt
  least_fits cmp (d ∷ ds) h = lesser_fits cmp (Some d) (least cmp ds) (All-head (HasType t) d ds h) (least_fits cmp ds (All-tail (HasType t) d ds h))

  or_null_fits : (o : Option Datum) → IfSome o (HasType t) → HasType t (or_null o)
  or_null_fits None h = inl refl
  or_null_fits (Some d) h = h

  extreme_fits : (cmp : Datum → Datum → Ordering) (ds : List Datum) (d : Datum) → All (HasType t) ds → or_null (least cmp ds) ≡ d → HasType t d
  extreme_fits cmp ds d h e = subst (HasType t) e (or_null_fits (least cmp ds) (least_fits cmp ds h))

-- ---- each aggregate

of_same : (a t : TypeOf) (d : Datum) → t ≡ a → HasType a d → HasType t d
of_same a t d e h = subst (λ t. HasType t d) (sym e) h

aggregate_fits : (f : Aggregate) (offset : ℕ) (ds : List Datum) (a t : TypeOf) (d : Datum) → IsAggregateType f a t → All (HasType a) ds → aggregate_of f offset ds ≡ Ok d → HasType t d
aggregate_fits Count offset ds a t d h k e = of_same (Some Bigint) t d h (number_fits offset (in_range (pos (length ds))) d e)
aggregate_fits Sum offset [] a t d h k e = subst (HasType t) (ok_is null d e) (inl refl)
aggregate_fits Sum offset (x ∷ ds) a t d h k e = of_same (Some Bigint) t d h.1 (number_fits offset (in_range (exact_sum (x ∷ ds))) d e)
aggregate_fits Min offset ds a t d h k e = of_same a t d h.1 (extreme_fits a datum_cmp ds d k (ok_is (or_null (least datum_cmp ds)) d e))
aggregate_fits Max offset ds a t d h k e = of_same a t d h.1 (extreme_fits a descending_cmp ds d k (ok_is (or_null (least descending_cmp ds)) d e))

-- ---- of an argument on a class of combinations

value_fits : (a : TypeOf) (m : Outcome) → GivesType a m → IfSome (value_in m) (HasType a)
value_fits a (Ok null) h = tt
value_fits a (Ok (int n)) h = h
value_fits a (Ok (text t)) h = h
value_fits a (Ok (bool b)) h = h
value_fits a (Err fault) h = tt

module _ (role : Name) (columns : List ColumnId) (key : Row) (these : List Combination) where
  class_values_fit : (e : BoundExpr) (a : TypeOf) → All (λ c. GivesType a (meaning (joined_cells c) role e)) these → All (HasType a) (argument_values role (Some e) (class_of columns key (map joined_cells these)))
  class_values_fit e a h =
      let fits : Cells → Type 0 = λ cells. IfSome (value_in (meaning cells role e)) (HasType a) in
      all_kept (HasType a) (λ cells. value_in (meaning cells role e)) (class_of columns key (map joined_cells these))
      (All-filter (λ cells. same_key (key_on cells columns) key) fits (map joined_cells these) (All-map fits joined_cells these (λ k d lt. value_fits a (meaning (joined_cells _) role e) (h k d lt))))

  -- the value of an aggregate of a type by the rules, of an argument whose values are of each type that it has
  pub call_fits : (entries : List Entry) (f : Aggregate) (offset : ℕ) (argument : Option BoundExpr) (t : TypeOf) (d : Datum) → (argument ≡ None → f ≡ Count) →
      ((e : BoundExpr) (a : TypeOf) → argument ≡ Some e → IsOfType entries e a → All (λ c. GivesType a (meaning (joined_cells c) role e)) these) →
      IsOfType entries (call_of f offset argument) t → aggregate_of f offset (argument_values role argument (class_of columns key (map joined_cells these))) ≡ Ok d → HasType t d
  call_fits entries f offset None t d counts values h e =
      let ds = argument_values role None (class_of columns key (map joined_cells these)) in
      of_same (Some Bigint) t d h (number_fits offset (in_range (pos (length ds))) d (subst (λ f. aggregate_of f offset ds ≡ Ok d) (counts refl) e))
  call_fits entries f offset (Some x) t d counts values h e =
      aggregate_fits f offset (argument_values role (Some x) (class_of columns key (map joined_cells these))) h.0 t d h.2 (class_values_fit x h.0 (values x h.0 refl h.1)) e
