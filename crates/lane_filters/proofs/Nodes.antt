-- What conditions give on each row, by what their parts give.
use Rattle.std.proofs.Common.{◌≡◌, ℕ, Bool, List, [], ◌∷◌, map, length, replicate, Result, Ok, Err, refl, sym, ap, ◌∙◌}
use Rattle.std.specs.Simd.Lanes.{zip2}
use Rattle.std.proofs.lemmas.Simd.{splat_is_map}
use Rattle.value.proofs.Conditions.{truth_back}
use Rattle.value.specs.Datum.{Datum, Row, cell}
use Rattle.value.specs.Names.{Name}
use Rattle.value.specs.Conditions.{truth_at}
use Rattle.value.specs.Truths.{least, greatest, negated}
use Rattle.value.specs.declared.order.Truth.{Truth}
use Rattle.value.specs.declared.order.Truth.TheVariants.{False, Unknown, True}
use Rattle.value.specs.declared.faults.Fault.{Fault}
use Rattle.value.specs.declared.operators.Comparison as operators
use Rattle.value.specs.declared.operators.Comparison.TheVariants as operator
use Rattle.expr.specs.declared.bound.ColumnId.{ColumnId}
use Rattle.expr.specs.Bound.{BoundExpr, Column, Literal, Comparison, Between, IsNull, Not, And, Or, BoundExprs, no_expr, one_expr}
use Rattle.eval.specs.Meaning.{Outcome, meaning, comparison, between, condition, conjunction, disjunction, as_datum, logical_not, unless_false, unless_true}
use Rattle.eval.specs.Operators.{comparison_of, negated_if, null_test}
use Rattle.tuples.specs.Rows.{cells_of}
use Rattle.lane_filters.specs.Outcomes.{AreTruths, AreValues}
use Rattle.lane_filters.proofs.Pointwise.{one_by_one, side_by_side, all_same, of_values, as_many}

-- ---- one row

compared_on : (op : operators.Comparison) (m n : Outcome) (x y : Datum) → m ≡ Ok x → n ≡ Ok y → condition (comparison op m n) ≡ Ok (comparison_of op x y)
compared_on op m n x y p q = (λ i. condition (comparison op (p i) (q i))) ∙ ap Ok (truth_back (comparison_of op x y))

between_on : (n : Bool) (m low high : Outcome) (t u : Truth) → condition (comparison operator.GreaterOrEqual m low) ≡ Ok t → condition (comparison operator.LessOrEqual m high) ≡ Ok u
    → condition (between n m low high) ≡ Ok (negated_if n (least t u))
between_on n (Err f) low high t u p q = cc
between_on n (Ok x) (Err f) high t u p q = cc
between_on n (Ok x) (Ok l) (Err f) t u p q = cc
between_on n (Ok x) (Ok l) (Ok h) t u p q =
    let first : comparison_of operator.GreaterOrEqual x l ≡ t = sym (truth_back (comparison_of operator.GreaterOrEqual x l)) ∙ cc in
    let second : comparison_of operator.LessOrEqual x h ≡ u = sym (truth_back (comparison_of operator.LessOrEqual x h)) ∙ cc in
    ap Ok (truth_back (negated_if n (least (comparison_of operator.GreaterOrEqual x l) (comparison_of operator.LessOrEqual x h)))) ∙ λ i. Ok (negated_if n (least (first i) (second i)))

not_on : (m : Outcome) (t : Truth) → condition m ≡ Ok t → condition (logical_not m) ≡ Ok (negated t)
not_on (Err f) t p = cc
not_on (Ok d) t p =
    let same : truth_at d ≡ t = cc in
    ap Ok (truth_back (negated (truth_at d))) ∙ ap (λ s. Ok (negated s)) same

as_condition : (r : Result Truth Fault) → condition (as_datum r) ≡ r
as_condition (Ok t) = ap Ok (truth_back t)
as_condition (Err f) = refl

and_on : (r s : Result Truth Fault) (t u : Truth) → r ≡ Ok t → s ≡ Ok u → unless_false r s ≡ Ok (least t u)
and_on r s False False p q = λ i. unless_false (p i) (q i)
and_on r s False Unknown p q = λ i. unless_false (p i) (q i)
and_on r s False True p q = λ i. unless_false (p i) (q i)
and_on r s Unknown u p q = λ i. unless_false (p i) (q i)
and_on r s True u p q = λ i. unless_false (p i) (q i)

or_on : (r s : Result Truth Fault) (t u : Truth) → r ≡ Ok t → s ≡ Ok u → unless_true r s ≡ Ok (greatest t u)
or_on r s True False p q = λ i. unless_true (p i) (q i)
or_on r s True Unknown p q = λ i. unless_true (p i) (q i)
or_on r s True True p q = λ i. unless_true (p i) (q i)
or_on r s Unknown u p q = λ i. unless_true (p i) (q i)
or_on r s False u p q = λ i. unless_true (p i) (q i)

-- ---- all rows

module _ (role : Name) (rows : List Row) where
  pub column_values : (id : ColumnId) → AreValues role rows (Column id) (map (λ row. cell row id.column) rows)
  column_values id = of_values (λ row. meaning (cells_of row) role (Column id)) (λ row. cell row id.column) (λ row. refl) rows

  pub literal_values : (d : Datum) → AreValues role rows (Literal d) (replicate (length rows) d)
  literal_values d =
      all_same (λ row. meaning (cells_of row) role (Literal d)) d (λ row. refl) rows ∙ ap (map Ok) (sym (splat_is_map rows (length rows) d refl))

  pub comparison_truths : (op : operators.Comparison) (offset : ℕ) (e f : BoundExpr) (xs ys : List Datum) → AreValues role rows e xs → AreValues role rows f ys
      → AreTruths role rows (Comparison op offset e f) (zip2 (comparison_of op) xs ys)
  comparison_truths op offset e f xs ys =
      side_by_side (λ row. meaning (cells_of row) role e) (λ row. meaning (cells_of row) role f) (λ row. condition (meaning (cells_of row) role (Comparison op offset e f))) (comparison_of op)
      (λ row x y p q. compared_on op (meaning (cells_of row) role e) (meaning (cells_of row) role f) x y p q) rows xs ys

  pub between_truths : (n : Bool) (offset : ℕ) (e low high : BoundExpr) (ts us : List Truth)
      → AreTruths role rows (Comparison operator.GreaterOrEqual offset e low) ts → AreTruths role rows (Comparison operator.LessOrEqual offset e high) us
      → AreTruths role rows (Between n offset e low high) (map (negated_if n) (zip2 least ts us))
  between_truths n offset e low high ts us p q =
      let meant : Row → BoundExpr → Outcome = λ row. meaning (cells_of row) role in
      side_by_side (λ row. condition (meant row (Comparison operator.GreaterOrEqual offset e low))) (λ row. condition (meant row (Comparison operator.LessOrEqual offset e high)))
      (λ row. condition (meant row (Between n offset e low high))) (λ t u. negated_if n (least t u))
      (λ row t u. between_on n (meant row e) (meant row low) (meant row high) t u) rows ts us p q
      ∙ ap (map Ok) (mapped n ts us)
    where
      mapped : (n : Bool) (ts us : List Truth) → zip2 (λ t u. negated_if n (least t u)) ts us ≡ map (negated_if n) (zip2 least ts us)
      mapped n [] us = refl
      mapped n (t ∷ ts) [] = refl
      mapped n (t ∷ ts) (u ∷ us) = λ p. negated_if n (least t u) ∷ mapped n ts us p

  pub null_truths : (n : Bool) (offset : ℕ) (id : ColumnId) (ts : List Truth) → ts ≡ map (negated_if n) (map null_test (map (λ row. cell row id.column) rows))
      → AreTruths role rows (IsNull n offset (Column id)) ts
  null_truths n offset id ts e =
      of_values (λ row. condition (meaning (cells_of row) role (IsNull n offset (Column id)))) (λ row. negated_if n (null_test (cell row id.column)))
      (λ row. ap Ok (truth_back (negated_if n (null_test (cell row id.column))))) rows ∙ ap (map Ok) (composed rows ∙ sym e)
    where
      composed : (rs : List Row) → map (λ row. negated_if n (null_test (cell row id.column))) rs ≡ map (negated_if n) (map null_test (map (λ row. cell row id.column) rs))
      composed [] = refl
      composed (r ∷ rs) = λ p. negated_if n (null_test (cell r id.column)) ∷ composed rs p

  pub not_truths : (offset : ℕ) (e : BoundExpr) (ts : List Truth) → AreTruths role rows e ts → AreTruths role rows (Not offset e) (map negated ts)
  not_truths offset e =
      one_by_one (λ row. condition (meaning (cells_of row) role e)) (λ row. condition (meaning (cells_of row) role (Not offset e))) negated
      (λ row t. not_on (meaning (cells_of row) role e) t) rows

  pub as_many_truths : (e : BoundExpr) (ts : List Truth) → AreTruths role rows e ts → length ts ≡ length rows
  as_many_truths e ts = as_many (λ row. condition (meaning (cells_of row) role e)) rows ts

  pub as_many_values : (e : BoundExpr) (xs : List Datum) → AreValues role rows e xs → length xs ≡ length rows
  as_many_values e xs = as_many (λ row. meaning (cells_of row) role e) rows xs

  same_conditions : (f g : Row → Result Truth Fault) → ((row : Row) → f row ≡ g row) → (rs : List Row) → map f rs ≡ map g rs
  same_conditions f g each [] = refl
  same_conditions f g each (r ∷ rs) = λ p. each r p ∷ same_conditions f g each rs p

  pub and_truths : (offset : ℕ) (es : BoundExprs) (ts : List Truth) → map (λ row. conjunction (cells_of row) role es) rows ≡ map Ok ts → AreTruths role rows (And offset es) ts
  and_truths offset es ts h =
      same_conditions (λ row. condition (meaning (cells_of row) role (And offset es))) (λ row. conjunction (cells_of row) role es) (λ row. as_condition (conjunction (cells_of row) role es)) rows ∙ h

  pub or_truths : (offset : ℕ) (es : BoundExprs) (ts : List Truth) → map (λ row. disjunction (cells_of row) role es) rows ≡ map Ok ts → AreTruths role rows (Or offset es) ts
  or_truths offset es ts h =
      same_conditions (λ row. condition (meaning (cells_of row) role (Or offset es))) (λ row. disjunction (cells_of row) role es) (λ row. as_condition (disjunction (cells_of row) role es)) rows ∙ h

  pub no_conjunct : (es : BoundExprs) → es ≡ no_expr → map (λ row. conjunction (cells_of row) role es) rows ≡ map Ok (replicate (length rows) True)
  no_conjunct es e =
      all_same (λ row. conjunction (cells_of row) role es) True (λ row. ap (conjunction (cells_of row) role) e) rows ∙ ap (map Ok) (sym (splat_is_map rows (length rows) True refl))

  pub no_disjunct : (es : BoundExprs) → es ≡ no_expr → map (λ row. disjunction (cells_of row) role es) rows ≡ map Ok (replicate (length rows) False)
  no_disjunct es e =
      all_same (λ row. disjunction (cells_of row) role es) False (λ row. ap (disjunction (cells_of row) role) e) rows ∙ ap (map Ok) (sym (splat_is_map rows (length rows) False refl))

  pub one_conjunct : (e : BoundExpr) (es all : BoundExprs) (ts us : List Truth) → all ≡ one_expr e es → AreTruths role rows e ts → map (λ row. conjunction (cells_of row) role es) rows ≡ map Ok us
      → map (λ row. conjunction (cells_of row) role all) rows ≡ map Ok (zip2 least ts us)
  one_conjunct e es all ts us is =
      side_by_side (λ row. condition (meaning (cells_of row) role e)) (λ row. conjunction (cells_of row) role es) (λ row. conjunction (cells_of row) role all) least
      (λ row t u p q. ap (conjunction (cells_of row) role) is ∙ and_on (condition (meaning (cells_of row) role e)) (conjunction (cells_of row) role es) t u p q) rows ts us

  pub one_disjunct : (e : BoundExpr) (es all : BoundExprs) (ts us : List Truth) → all ≡ one_expr e es → AreTruths role rows e ts → map (λ row. disjunction (cells_of row) role es) rows ≡ map Ok us
      → map (λ row. disjunction (cells_of row) role all) rows ≡ map Ok (zip2 greatest ts us)
  one_disjunct e es all ts us is =
      side_by_side (λ row. condition (meaning (cells_of row) role e)) (λ row. disjunction (cells_of row) role es) (λ row. disjunction (cells_of row) role all) greatest
      (λ row t u p q. ap (disjunction (cells_of row) role) is ∙ or_on (condition (meaning (cells_of row) role e)) (disjunction (cells_of row) role es) t u p q) rows ts us
