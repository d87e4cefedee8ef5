-- Equalities of columns and values, and the rows on which they hold.
use Rattle.std.proofs.Common.{◌≡◌, ◌∙◌, sym, ap, refl, subst, ℕ, Bool, true, false, List, Option, Some, None, Ok, Err, if◌then◌else◌}
use Rattle.std.specs.declared.cmp.Ordering.{Ordering}
use Rattle.std.specs.declared.cmp.Ordering.TheVariants as order
use Rattle.std.specs.Ordering.{is_eq, ordering_reverse}
use Rattle.value.specs.Datum.{Datum, null, int, text, bool}
use Rattle.value.specs.Orders.{compared, datum_cmp, of_bool, is_true}
use Rattle.value.specs.declared.operators.Comparison.TheVariants.{Equal}
use Rattle.value.proofs.DatumOrder.{datum_cmp_exact, datum_cmp_total}
use Rattle.expr.specs.declared.bound.ColumnId.{ColumnId}
use Rattle.expr.specs.Movable.{movable}
use Rattle.expr.specs.Bound.{is_column, BoundExpr, Column, Literal, Comparison, IsNull}
use Rattle.eval.specs.Meaning.{Cells, Outcome, meaning, comparison, null_check, is_true_outcome, holds}
use Rattle.memory.proofs.Cases.{some_is}
use Rattle.value.proofs.Conditions.{true_bool, truth_back}
use Rattle.predicates.specs.Equalities.{column_sides, is_never_true, not_null_of, not_null_form}
use Rattle.predicates.proofs.Equal.{value_itself, is_equal, column_exact}

-- ---- equal values

-- neither is null, and they compare as equal
abbrev equal : Datum → Datum → Bool
equal x y = is_true (compared is_eq x y)

reversed_eq : (o : Ordering) → is_eq (ordering_reverse o) ≡ is_eq o
reversed_eq order.Less = refl
reversed_eq order.Equal = refl
reversed_eq order.Greater = refl

turned_eq : (x y : Datum) → is_eq (datum_cmp x y) ≡ is_eq (datum_cmp y x)
turned_eq x y = ap is_eq (datum_cmp_total.antisymm x y) ∙ reversed_eq (datum_cmp y x)

equal_turned : (x y : Datum) → equal x y ≡ equal y x
equal_turned null null = refl
equal_turned null (int m) = refl
equal_turned null (text m) = refl
equal_turned null (bool m) = refl
equal_turned (int n) null = refl
equal_turned (int n) (int m) = ap (λ b. is_true (of_bool b)) (turned_eq (int n) (int m))
equal_turned (int n) (text m) = ap (λ b. is_true (of_bool b)) (turned_eq (int n) (text m))
equal_turned (int n) (bool m) = ap (λ b. is_true (of_bool b)) (turned_eq (int n) (bool m))
equal_turned (text n) null = refl
equal_turned (text n) (int m) = ap (λ b. is_true (of_bool b)) (turned_eq (text n) (int m))
equal_turned (text n) (text m) = ap (λ b. is_true (of_bool b)) (turned_eq (text n) (text m))
equal_turned (text n) (bool m) = ap (λ b. is_true (of_bool b)) (turned_eq (text n) (bool m))
equal_turned (bool n) null = refl
equal_turned (bool n) (int m) = ap (λ b. is_true (of_bool b)) (turned_eq (bool n) (int m))
equal_turned (bool n) (text m) = ap (λ b. is_true (of_bool b)) (turned_eq (bool n) (text m))
equal_turned (bool n) (bool m) = ap (λ b. is_true (of_bool b)) (turned_eq (bool n) (bool m))

same_by : (x y : Datum) → is_true (of_bool (is_eq (datum_cmp x y))) ≡ true → x ≡ y
same_by x y h = datum_cmp_exact x y (is_equal (datum_cmp x y) (sym (true_bool (is_eq (datum_cmp x y))) ∙ h))

equal_exact : (x y : Datum) → equal x y ≡ true → x ≡ y
equal_exact null y h = absurd (cc)
equal_exact (int n) null h = absurd (cc)
equal_exact (int n) (int m) h = same_by (int n) (int m) h
equal_exact (int n) (text m) h = same_by (int n) (text m) h
equal_exact (int n) (bool m) h = same_by (int n) (bool m) h
equal_exact (text n) null h = absurd (cc)
equal_exact (text n) (int m) h = same_by (text n) (int m) h
equal_exact (text n) (text m) h = same_by (text n) (text m) h
equal_exact (text n) (bool m) h = same_by (text n) (bool m) h
equal_exact (bool n) null h = absurd (cc)
equal_exact (bool n) (int m) h = same_by (bool n) (int m) h
equal_exact (bool n) (text m) h = same_by (bool n) (text m) h
equal_exact (bool n) (bool m) h = same_by (bool n) (bool m) h

-- ---- equal outcomes

abbrev equality : Outcome → Outcome → Bool
equality m n = is_true_outcome (comparison Equal m n)

equality_is : (x y : Datum) → equality (Ok x) (Ok y) ≡ equal x y
equality_is x y = ap is_true (truth_back (compared is_eq x y))

equality_turned : (m n : Outcome) → equality m n ≡ equality n m
equality_turned (Err f) (Err g) = refl
equality_turned (Err f) (Ok y) = refl
equality_turned (Ok x) (Err g) = refl
equality_turned (Ok x) (Ok y) = equality_is x y ∙ equal_turned x y ∙ sym (equality_is y x)

equality_chains : (l m n : Outcome) → equality l m ≡ true → equality m n ≡ true → equality l n ≡ true
equality_chains (Err f) m n p q = absurd (cc)
equality_chains (Ok x) (Err f) n p q = absurd (cc)
equality_chains (Ok x) (Ok y) n p q = ap (λ z. equality (Ok z) n) (equal_exact x y (sym (equality_is x y) ∙ p)) ∙ q

pub equality_turns : (e f : BoundExpr) (offset other : ℕ) (cells : Cells) (role : List ℕ) → holds cells role (Comparison Equal offset e f) ≡ holds cells role (Comparison Equal other f e)
equality_turns e f offset other cells role = equality_turned (meaning cells role e) (meaning cells role f)

pub equalities_chain : (e f g : BoundExpr) (one two three : ℕ) (cells : Cells) (role : List ℕ) → holds cells role (Comparison Equal one e f) ≡ true → holds cells role (Comparison Equal two f g) ≡ true → holds cells role (Comparison Equal three e g) ≡ true
equalities_chain e f g one two three cells role = equality_chains (meaning cells role e) (meaning cells role f) (meaning cells role g)

-- ---- IS NOT NULL

itself_equal : (x : Datum) → is_true (of_bool (is_eq (datum_cmp x x))) ≡ true
itself_equal x = true_bool (is_eq (datum_cmp x x)) ∙ value_itself x

not_null : (x : Datum) → is_true_outcome (null_check true (Ok x)) ≡ equality (Ok x) (Ok x)
not_null null = refl
not_null (int n) = sym (equality_is (int n) (int n) ∙ itself_equal (int n))
not_null (text n) = sym (equality_is (text n) (text n) ∙ itself_equal (text n))
not_null (bool n) = sym (equality_is (bool n) (bool n) ∙ itself_equal (bool n))

-- the form of a column that is the other too
pub not_null_made : (sides : Option (ColumnId × ColumnId)) (a b : ColumnId) → sides ≡ Some (a, b) → true ≡ is_column a b → Some (IsNull true 0 (Column a)) ≡ not_null_of sides
not_null_made sides a b q t = sym (ap not_null_of q ∙ ap (λ (s : Bool). if s then Some (IsNull true 0 (Column a)) else None) (sym t))

-- the form, by its column
pub record NotNull (a b : ColumnId) (f : BoundExpr) : Type 0 where
  pub one_column : a ≡ b
  pub whole : IsNull true 0 (Column a) ≡ f

not_null_is : (a b : ColumnId) (f : BoundExpr) → not_null_of (Some (a, b)) ≡ Some f → NotNull a b f
not_null_is a b f h = go (is_column a b) refl h
  where
    go : (s : Bool) → is_column a b ≡ s → ◌≡◌ {A = Option BoundExpr} (if s then Some (IsNull true 0 (Column a)) else None) (Some f) → NotNull a b f
    go true t k = record { one_column = column_exact a b t; whole = some_is _ _ k }
    go false t k = absurd (cc)

-- the equality, by its columns
pub record Sides (e : BoundExpr) (a b : ColumnId) : Type 0 where
  pub offset : ℕ
  pub is : e ≡ Comparison Equal offset (Column a) (Column b)

sides_are : (e : BoundExpr) (p : ColumnId × ColumnId) → column_sides e ≡ Some p → Sides e p.0 p.1
sides_are (Comparison Equal offset (Column a) (Column b)) p h = record { offset = offset; is = ap (λ (q : ColumnId × ColumnId). Comparison Equal offset (Column q.0) (Column q.1)) (some_is _ _ h) }
sides_are _ p h = absurd (cc)

by_sides : (e f : BoundExpr) → not_null_form e ≡ Some f → (a : ColumnId) × Sides e a a × (IsNull true 0 (Column a) ≡ f)
by_sides e f h = go (column_sides e) refl h
  where
    go : (p : Option (ColumnId × ColumnId)) → column_sides e ≡ p → not_null_of p ≡ Some f → (a : ColumnId) × Sides e a a × (IsNull true 0 (Column a) ≡ f)
    go None p k = absurd (cc)
    go (Some (a, b)) p k = let n = not_null_is a b f k in (a, subst (λ c. Sides e a c) (sym n.one_column) (sides_are e (a, b) p), n.whole)

pub not_null_movable : (e f : BoundExpr) → movable e ≡ true → not_null_form e ≡ Some f → movable f ≡ true
not_null_movable e f h q = ap movable (sym (by_sides e f q).2)

pub not_null_holds : (cells : Cells) (role : List ℕ) (e f : BoundExpr) → not_null_form e ≡ Some f → holds cells role f ≡ holds cells role e
not_null_holds cells role e f q =
    let s = by_sides e f q in
    ap (holds cells role) (sym s.2) ∙ not_null (cells.column s.0) ∙ ap (holds cells role) (sym s.1.is)

-- ---- FALSE and NULL

pub never_true : (e : BoundExpr) → is_never_true e ≡ true → (cells : Cells) (role : List ℕ) → holds cells role e ≡ false
never_true (Literal null) h cells role = refl
never_true (Literal (bool false)) h cells role = refl
never_true _ h cells role = absurd (cc)
