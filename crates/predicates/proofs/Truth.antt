-- NOT carried inward keeps the truth value.
use Rattle.std.proofs.Common.{◌≡◌, ◌∙◌, sym, ap, ap₂, refl, ℕ, Bool, true, false, not, List, Result, Ok, Err}
use Rattle.std.specs.declared.cmp.Ordering.{Ordering}
use Rattle.std.specs.declared.cmp.Ordering.TheVariants as order
use Rattle.std.specs.Ordering.{is_eq, is_ne, is_lt, is_le, is_gt, is_ge}
use Rattle.value.proofs.Conditions.{truth_back}
use Rattle.value.specs.Datum.{Datum, null, int, text, bool}
use Rattle.value.specs.Orders.{compared, datum_cmp, of_bool}
use Rattle.value.specs.Truths.{negated}
use Rattle.value.specs.Conditions.{truth_at, at_truth}
use Rattle.value.specs.declared.faults.Fault.{Fault}
use Rattle.value.specs.declared.order.Truth.{Truth}
use Rattle.value.specs.declared.order.Truth.TheVariants.{False, Unknown, True}
use Rattle.value.specs.declared.operators.Comparison as operators
use Rattle.value.specs.declared.operators.Comparison.TheVariants.{Equal, NotEqual, Less, LessOrEqual, Greater, GreaterOrEqual}
use Rattle.expr.specs.Movable.{movable, all_movable}
use Rattle.expr.specs.Bound.{BoundExpr, Column, Literal, CurrentUser, Negate, Arithmetic, Comparison, Between, In, IsNull, Not, And, Or, Cast, Case, CountStar, Call, BoundExprs, no_expr, one_expr}
use Rattle.eval.specs.Operators.{comparison_of, between_of, in_of, null_test, negated_if}
use Rattle.eval.proofs.Conditions.{and_start, or_start}
use Rattle.eval.specs.Meaning.{Cells, Outcome, meaning, conjunction, disjunction, comparison, between, membership, null_check, logical_not, condition, unless_false, unless_true, as_datum}
use Rattle.eval.proofs.Movables.{and_left, and_right}
use Rattle.value.specs.Operators.{negator}
use Rattle.predicates.specs.Inward.{before, and_before, or_before, inward, not_inward, and_inward, or_inward, not_and_inward, not_or_inward}
use Rattle.predicates.proofs.Keeping.{both}

-- ---- truth values

twice : (t : Truth) → negated (negated t) ≡ t
twice False = refl
twice Unknown = refl
twice True = refl

of_bool_not : (b : Bool) → of_bool (not b) ≡ negated (of_bool b)
of_bool_not true = refl
of_bool_not false = refl

negated_not : (b : Bool) (t : Truth) → negated_if (not b) t ≡ negated (negated_if b t)
negated_not true t = sym (twice t)
negated_not false t = refl

compared_not : (test other : Ordering → Bool) → ((o : Ordering) → other o ≡ not (test o)) → (x y : Datum) → compared other x y ≡ negated (compared test x y)
compared_not test other h null y = refl
compared_not test other h (int n) null = refl
compared_not test other h (int n) (int m) = ap of_bool (h (datum_cmp (int n) (int m))) ∙ of_bool_not (test (datum_cmp (int n) (int m)))
compared_not test other h (int n) (text m) = ap of_bool (h (datum_cmp (int n) (text m))) ∙ of_bool_not (test (datum_cmp (int n) (text m)))
compared_not test other h (int n) (bool m) = ap of_bool (h (datum_cmp (int n) (bool m))) ∙ of_bool_not (test (datum_cmp (int n) (bool m)))
compared_not test other h (text n) null = refl
compared_not test other h (text n) (int m) = ap of_bool (h (datum_cmp (text n) (int m))) ∙ of_bool_not (test (datum_cmp (text n) (int m)))
compared_not test other h (text n) (text m) = ap of_bool (h (datum_cmp (text n) (text m))) ∙ of_bool_not (test (datum_cmp (text n) (text m)))
compared_not test other h (text n) (bool m) = ap of_bool (h (datum_cmp (text n) (bool m))) ∙ of_bool_not (test (datum_cmp (text n) (bool m)))
compared_not test other h (bool n) null = refl
compared_not test other h (bool n) (int m) = ap of_bool (h (datum_cmp (bool n) (int m))) ∙ of_bool_not (test (datum_cmp (bool n) (int m)))
compared_not test other h (bool n) (text m) = ap of_bool (h (datum_cmp (bool n) (text m))) ∙ of_bool_not (test (datum_cmp (bool n) (text m)))
compared_not test other h (bool n) (bool m) = ap of_bool (h (datum_cmp (bool n) (bool m))) ∙ of_bool_not (test (datum_cmp (bool n) (bool m)))

turns : (op : operators.Comparison) (x y : Datum) → comparison_of (negator op) x y ≡ negated (comparison_of op x y)
turns Equal = compared_not is_eq is_ne (elim [ order.Less ↦ refl | order.Equal ↦ refl | order.Greater ↦ refl ])
turns NotEqual = compared_not is_ne is_eq (elim [ order.Less ↦ refl | order.Equal ↦ refl | order.Greater ↦ refl ])
turns Less = compared_not is_lt is_ge (elim [ order.Less ↦ refl | order.Equal ↦ refl | order.Greater ↦ refl ])
turns LessOrEqual = compared_not is_le is_gt (elim [ order.Less ↦ refl | order.Equal ↦ refl | order.Greater ↦ refl ])
turns Greater = compared_not is_gt is_le (elim [ order.Less ↦ refl | order.Equal ↦ refl | order.Greater ↦ refl ])
turns GreaterOrEqual = compared_not is_ge is_lt (elim [ order.Less ↦ refl | order.Equal ↦ refl | order.Greater ↦ refl ])

-- ---- conditions

abbrev pub opposite : Result Truth Fault → Result Truth Fault
opposite (Ok t) = Ok (negated t)
opposite (Err f) = Err f

opposite_twice : (c : Result Truth Fault) → opposite (opposite c) ≡ c
opposite_twice (Ok t) = ap Ok (twice t)
opposite_twice (Err f) = refl

pub condition_datum : (c : Result Truth Fault) → condition (as_datum c) ≡ c
condition_datum (Ok t) = ap Ok (truth_back t)
condition_datum (Err f) = refl

condition_not : (m : Outcome) → condition (logical_not m) ≡ opposite (condition m)
condition_not (Ok d) = ap Ok (truth_back (negated (truth_at d)))
condition_not (Err f) = refl

opposite_and : (a b : Result Truth Fault) → opposite (unless_false a b) ≡ unless_true (opposite a) (opposite b)
opposite_and (Ok False) b = refl
opposite_and (Err f) b = refl
opposite_and (Ok Unknown) (Ok False) = refl
opposite_and (Ok Unknown) (Ok Unknown) = refl
opposite_and (Ok Unknown) (Ok True) = refl
opposite_and (Ok Unknown) (Err f) = refl
opposite_and (Ok True) (Ok False) = refl
opposite_and (Ok True) (Ok Unknown) = refl
opposite_and (Ok True) (Ok True) = refl
opposite_and (Ok True) (Err f) = refl

opposite_or : (a b : Result Truth Fault) → opposite (unless_true a b) ≡ unless_false (opposite a) (opposite b)
opposite_or (Ok True) b = refl
opposite_or (Err f) b = refl
opposite_or (Ok False) (Ok False) = refl
opposite_or (Ok False) (Ok Unknown) = refl
opposite_or (Ok False) (Ok True) = refl
opposite_or (Ok False) (Err f) = refl
opposite_or (Ok Unknown) (Ok False) = refl
opposite_or (Ok Unknown) (Ok Unknown) = refl
opposite_or (Ok Unknown) (Ok True) = refl
opposite_or (Ok Unknown) (Err f) = refl

merged_and : (a b c : Result Truth Fault) → unless_false (unless_false a b) c ≡ unless_false a (unless_false b c)
merged_and (Ok False) b c = refl
merged_and (Err f) b c = refl
merged_and (Ok Unknown) (Ok False) c = refl
merged_and (Ok Unknown) (Ok Unknown) (Ok False) = refl
merged_and (Ok Unknown) (Ok Unknown) (Ok Unknown) = refl
merged_and (Ok Unknown) (Ok Unknown) (Ok True) = refl
merged_and (Ok Unknown) (Ok Unknown) (Err g) = refl
merged_and (Ok Unknown) (Ok True) (Ok False) = refl
merged_and (Ok Unknown) (Ok True) (Ok Unknown) = refl
merged_and (Ok Unknown) (Ok True) (Ok True) = refl
merged_and (Ok Unknown) (Ok True) (Err g) = refl
merged_and (Ok Unknown) (Err f) c = refl
merged_and (Ok True) (Ok False) c = refl
merged_and (Ok True) (Ok Unknown) (Ok False) = refl
merged_and (Ok True) (Ok Unknown) (Ok Unknown) = refl
merged_and (Ok True) (Ok Unknown) (Ok True) = refl
merged_and (Ok True) (Ok Unknown) (Err g) = refl
merged_and (Ok True) (Ok True) (Ok False) = refl
merged_and (Ok True) (Ok True) (Ok Unknown) = refl
merged_and (Ok True) (Ok True) (Ok True) = refl
merged_and (Ok True) (Ok True) (Err g) = refl
merged_and (Ok True) (Err f) c = refl

merged_or : (a b c : Result Truth Fault) → unless_true (unless_true a b) c ≡ unless_true a (unless_true b c)
merged_or (Ok True) b c = refl
merged_or (Err f) b c = refl
merged_or (Ok False) (Ok False) (Ok False) = refl
merged_or (Ok False) (Ok False) (Ok Unknown) = refl
merged_or (Ok False) (Ok False) (Ok True) = refl
merged_or (Ok False) (Ok False) (Err g) = refl
merged_or (Ok False) (Ok Unknown) (Ok False) = refl
merged_or (Ok False) (Ok Unknown) (Ok Unknown) = refl
merged_or (Ok False) (Ok Unknown) (Ok True) = refl
merged_or (Ok False) (Ok Unknown) (Err g) = refl
merged_or (Ok False) (Ok True) c = refl
merged_or (Ok False) (Err f) c = refl
merged_or (Ok Unknown) (Ok False) (Ok False) = refl
merged_or (Ok Unknown) (Ok False) (Ok Unknown) = refl
merged_or (Ok Unknown) (Ok False) (Ok True) = refl
merged_or (Ok Unknown) (Ok False) (Err g) = refl
merged_or (Ok Unknown) (Ok Unknown) (Ok False) = refl
merged_or (Ok Unknown) (Ok Unknown) (Ok Unknown) = refl
merged_or (Ok Unknown) (Ok Unknown) (Ok True) = refl
merged_or (Ok Unknown) (Ok Unknown) (Err g) = refl
merged_or (Ok Unknown) (Ok True) c = refl
merged_or (Ok Unknown) (Err f) c = refl

comparison_negated : (op : operators.Comparison) (m n : Outcome) → condition (comparison (negator op) m n) ≡ opposite (condition (comparison op m n))
comparison_negated op (Err f) n = refl
comparison_negated op (Ok x) (Err f) = refl
comparison_negated op (Ok x) (Ok y) = ap Ok (truth_back (comparison_of (negator op) x y) ∙ turns op x y ∙ ap negated (sym (truth_back (comparison_of op x y))))

between_turned : (negate : Bool) (m low high : Outcome) → condition (between (not negate) m low high) ≡ opposite (condition (between negate m low high))
between_turned negate (Err f) low high = refl
between_turned negate (Ok x) (Err f) high = refl
between_turned negate (Ok x) (Ok y) (Err f) = refl
between_turned negate (Ok x) (Ok y) (Ok z) = ap Ok (truth_back _ ∙ negated_not negate (between_of x y z) ∙ ap negated (sym (truth_back (negated_if negate (between_of x y z)))))

in_turned : (negate : Bool) (m : Outcome) (values : List Datum) → condition (membership (not negate) m values) ≡ opposite (condition (membership negate m values))
in_turned negate (Err f) values = refl
in_turned negate (Ok x) values = ap Ok (truth_back _ ∙ negated_not negate (in_of x values) ∙ ap negated (sym (truth_back (negated_if negate (in_of x values)))))

is_null_turned : (negate : Bool) (m : Outcome) → condition (null_check (not negate) m) ≡ opposite (condition (null_check negate m))
is_null_turned negate (Err f) = refl
is_null_turned negate (Ok x) = ap Ok (truth_back _ ∙ negated_not negate (null_test x) ∙ ap negated (sym (truth_back (negated_if negate (null_test x)))))

-- ---- conditions of the forms

module _ (cells : Cells) (role : List ℕ) where
  abbrev pub truth : BoundExpr → Result Truth Fault
  truth e = condition (meaning cells role e)

  abbrev pub all : BoundExprs → Result Truth Fault
  all es = conjunction cells role es

  abbrev pub any : BoundExprs → Result Truth Fault
  any es = disjunction cells role es

  pub all_before : (es rest : BoundExprs) → all (before es rest) ≡ unless_false (all es) (all rest)
  all_before no_expr rest = sym (and_start (all rest))
  all_before (one_expr e es) rest = ap (unless_false (truth e)) (all_before es rest) ∙ sym (merged_and (truth e) (all es) (all rest))

  any_before : (es rest : BoundExprs) → any (before es rest) ≡ unless_true (any es) (any rest)
  any_before no_expr rest = sym (or_start (any rest))
  any_before (one_expr e es) rest = ap (unless_true (truth e)) (any_before es rest) ∙ sym (merged_or (truth e) (any es) (any rest))

  all_and_before : (e : BoundExpr) (rest : BoundExprs) → all (and_before e rest) ≡ unless_false (truth e) (all rest)
  all_and_before (And offset es) rest = all_before es rest ∙ ap (λ c. unless_false c (all rest)) (sym (condition_datum (all es)))
  all_and_before _ rest = refl

  pub any_or_before : (e : BoundExpr) (rest : BoundExprs) → any (or_before e rest) ≡ unless_true (truth e) (any rest)
  any_or_before (Or offset es) rest = any_before es rest ∙ ap (λ c. unless_true c (any rest)) (sym (condition_datum (any es)))
  any_or_before _ rest = refl

  mutual
    pub inward_truth : (e : BoundExpr) → truth (inward e) ≡ truth e
    inward_truth (And offset es) = condition_datum _ ∙ and_truth es ∙ sym (condition_datum (all es))
    inward_truth (Or offset es) = condition_datum _ ∙ or_truth es ∙ sym (condition_datum (any es))
    inward_truth (Not offset e) = not_truth e ∙ sym (condition_not (meaning cells role e))
    inward_truth _ = refl

    not_truth : (e : BoundExpr) → truth (not_inward e) ≡ opposite (truth e)
    not_truth (And offset es) = condition_datum _ ∙ not_or_truth es ∙ ap opposite (sym (condition_datum (all es)))
    not_truth (Or offset es) = condition_datum _ ∙ not_and_truth es ∙ ap opposite (sym (condition_datum (any es)))
    not_truth (Not offset e) = inward_truth e ∙ sym (opposite_twice (truth e)) ∙ ap opposite (sym (condition_not (meaning cells role e)))
    not_truth (Comparison op offset e f) = comparison_negated op (meaning cells role e) (meaning cells role f)
    not_truth (Between negate offset e low high) = between_turned negate (meaning cells role e) (meaning cells role low) (meaning cells role high)
    not_truth (In negate offset values e) = in_turned negate (meaning cells role e) values
    not_truth (IsNull negate offset e) = is_null_turned negate (meaning cells role e)
    not_truth (Literal d) = ap Ok (truth_back (negated (truth_at d)))
    not_truth (Column id) = condition_not (meaning cells role (Column id))
    not_truth CurrentUser = condition_not (meaning cells role CurrentUser)
    not_truth (Negate offset e) = condition_not (meaning cells role (Negate offset e))
    not_truth (Arithmetic op offset e f) = condition_not (meaning cells role (Arithmetic op offset e f))
    not_truth (Cast offset to e) = condition_not (meaning cells role (Cast offset to e))
    not_truth (Case offset as_ o) = condition_not (meaning cells role (Case offset as_ o))
    not_truth (CountStar offset) = condition_not (meaning cells role (CountStar offset))
    not_truth (Call f offset e) = condition_not (meaning cells role (Call f offset e))

    and_truth : (es : BoundExprs) → all (and_inward es) ≡ all es
    and_truth no_expr = refl
    and_truth (one_expr e es) = all_and_before (inward e) (and_inward es) ∙ ap₂ unless_false (inward_truth e) (and_truth es)

    or_truth : (es : BoundExprs) → any (or_inward es) ≡ any es
    or_truth no_expr = refl
    or_truth (one_expr e es) = any_or_before (inward e) (or_inward es) ∙ ap₂ unless_true (inward_truth e) (or_truth es)

    not_and_truth : (es : BoundExprs) → all (not_and_inward es) ≡ opposite (any es)
    not_and_truth no_expr = refl
    not_and_truth (one_expr e es) = all_and_before (not_inward e) (not_and_inward es) ∙ ap₂ unless_false (not_truth e) (not_and_truth es) ∙ sym (opposite_or (truth e) (any es))

    not_or_truth : (es : BoundExprs) → any (not_or_inward es) ≡ opposite (all es)
    not_or_truth no_expr = refl
    not_or_truth (one_expr e es) = any_or_before (not_inward e) (not_or_inward es) ∙ ap₂ unless_true (not_truth e) (not_or_truth es) ∙ sym (opposite_and (truth e) (all es))

-- ---- the forms are movable

pub before_movable : (es rest : BoundExprs) → all_movable es ≡ true → all_movable rest ≡ true → all_movable (before es rest) ≡ true
before_movable no_expr rest p q = q
before_movable (one_expr e es) rest p q = both _ _ (and_left _ (all_movable es) p) (before_movable es rest (and_right (movable e) _ p) q)

and_before_movable : (e : BoundExpr) (rest : BoundExprs) → movable e ≡ true → all_movable rest ≡ true → all_movable (and_before e rest) ≡ true
and_before_movable (And offset es) rest p q = before_movable es rest p q
and_before_movable e rest p q = both (movable e) _ p q

pub or_before_movable : (e : BoundExpr) (rest : BoundExprs) → movable e ≡ true → all_movable rest ≡ true → all_movable (or_before e rest) ≡ true
or_before_movable (Or offset es) rest p q = before_movable es rest p q
or_before_movable e rest p q = both (movable e) _ p q

mutual
  pub inward_movable : (e : BoundExpr) → movable e ≡ true → movable (inward e) ≡ true
  inward_movable (And offset es) h = and_movable es h
  inward_movable (Or offset es) h = or_movable es h
  inward_movable (Not offset e) h = not_movable e h
  inward_movable _ h = h

  not_movable : (e : BoundExpr) → movable e ≡ true → movable (not_inward e) ≡ true
  not_movable (And offset es) h = not_or_movable es h
  not_movable (Or offset es) h = not_and_movable es h
  not_movable (Not offset e) h = inward_movable e h
  not_movable (Literal d) h = refl
  not_movable _ h = h

  and_movable : (es : BoundExprs) → all_movable es ≡ true → all_movable (and_inward es) ≡ true
  and_movable no_expr h = refl
  and_movable (one_expr e es) h = and_before_movable (inward e) (and_inward es) (inward_movable e (and_left _ (all_movable es) h)) (and_movable es (and_right (movable e) _ h))

  or_movable : (es : BoundExprs) → all_movable es ≡ true → all_movable (or_inward es) ≡ true
  or_movable no_expr h = refl
  or_movable (one_expr e es) h = or_before_movable (inward e) (or_inward es) (inward_movable e (and_left _ (all_movable es) h)) (or_movable es (and_right (movable e) _ h))

  not_and_movable : (es : BoundExprs) → all_movable es ≡ true → all_movable (not_and_inward es) ≡ true
  not_and_movable no_expr h = refl
  not_and_movable (one_expr e es) h = and_before_movable (not_inward e) (not_and_inward es) (not_movable e (and_left _ (all_movable es) h)) (not_and_movable es (and_right (movable e) _ h))

  not_or_movable : (es : BoundExprs) → all_movable es ≡ true → all_movable (not_or_inward es) ≡ true
  not_or_movable no_expr h = refl
  not_or_movable (one_expr e es) h = or_before_movable (not_inward e) (not_or_inward es) (not_movable e (and_left _ (all_movable es) h)) (not_or_movable es (and_right (movable e) _ h))
