-- The test of two expressions holds exactly where they are equal.
use Rattle.std.proofs.Common.{◌≡◌, ◌∙◌, sym, ap, ap₂, refl, ℕ, nat_eq, Bool, true, false, ◌&&◌, List, [], ◌∷◌}
use Rattle.std.proofs.lemmas.Bool.{eqb-true, eq-eqb}
use Rattle.std.specs.declared.cmp.Ordering.{Ordering}
use Rattle.std.specs.declared.cmp.Ordering.TheVariants as order
use Rattle.std.specs.Ordering.{is_eq, ordering_reverse}
use Rattle.value.specs.Datum.{Datum}
use Rattle.value.specs.Orders.{datum_cmp}
use Rattle.value.proofs.DatumOrder.{datum_cmp_exact, datum_cmp_total}
use Rattle.value.specs.declared.types.ColType as types
use Rattle.value.specs.declared.types.ColType.TheVariants as type
use Rattle.value.specs.declared.operators.Arithmetic as operators
use Rattle.value.specs.declared.operators.Arithmetic.TheVariants as arithmetic
use Rattle.value.specs.declared.operators.Comparison as operators'
use Rattle.value.specs.declared.operators.Comparison.TheVariants as comparison
use Rattle.value.specs.declared.operators.Aggregate as operators''
use Rattle.value.specs.declared.operators.Aggregate.TheVariants as aggregate
use Rattle.expr.specs.declared.bound.ColumnId.{ColumnId}
use Rattle.expr.specs.Bound.{is_column, BoundExpr, Column, Literal, CurrentUser, Negate, Arithmetic, Comparison, Between, In, IsNull, Not, And, Or, Cast, Case, CountStar, Call, BoundExprs, no_expr, one_expr, BoundArms, no_arm, one_arm, BoundOtherwise, Nothing, Value}
use Rattle.eval.proofs.Movables.{and_left, and_right}
use Rattle.predicates.specs.Operands.{arithmetic_number, comparison_number, type_number, aggregate_number, same_bool, same_value, same_values, Decides}
use Rattle.predicates.specs.Same.{same, all_same, arms_same, otherwise_same}
use Rattle.predicates.proofs.Keeping.{both}

arithmetic_exact : (a b : operators.Arithmetic) → nat_eq (arithmetic_number a) (arithmetic_number b) ≡ true → a ≡ b
arithmetic_exact arithmetic.Add arithmetic.Add h = refl
arithmetic_exact arithmetic.Subtract arithmetic.Subtract h = refl
arithmetic_exact arithmetic.Multiply arithmetic.Multiply h = refl
arithmetic_exact arithmetic.Divide arithmetic.Divide h = refl
arithmetic_exact arithmetic.Remainder arithmetic.Remainder h = refl
arithmetic_exact _ _ h = absurd (cc)

comparison_exact : (a b : operators'.Comparison) → nat_eq (comparison_number a) (comparison_number b) ≡ true → a ≡ b
comparison_exact comparison.Equal comparison.Equal h = refl
comparison_exact comparison.NotEqual comparison.NotEqual h = refl
comparison_exact comparison.Less comparison.Less h = refl
comparison_exact comparison.LessOrEqual comparison.LessOrEqual h = refl
comparison_exact comparison.Greater comparison.Greater h = refl
comparison_exact comparison.GreaterOrEqual comparison.GreaterOrEqual h = refl
comparison_exact _ _ h = absurd (cc)

type_exact : (a b : types.ColType) → nat_eq (type_number a) (type_number b) ≡ true → a ≡ b
type_exact type.Bigint type.Bigint h = refl
type_exact type.Text type.Text h = refl
type_exact type.Boolean type.Boolean h = refl
type_exact _ _ h = absurd (cc)

aggregate_exact : (a b : operators''.Aggregate) → nat_eq (aggregate_number a) (aggregate_number b) ≡ true → a ≡ b
aggregate_exact aggregate.Count aggregate.Count h = refl
aggregate_exact aggregate.Sum aggregate.Sum h = refl
aggregate_exact aggregate.Min aggregate.Min h = refl
aggregate_exact aggregate.Max aggregate.Max h = refl
aggregate_exact _ _ h = absurd (cc)

bool_exact : (a b : Bool) → same_bool a b ≡ true → a ≡ b
bool_exact true true h = refl
bool_exact true false h = absurd (cc)
bool_exact false true h = absurd (cc)
bool_exact false false h = refl

bool_itself : (a : Bool) → same_bool a a ≡ true
bool_itself true = refl
bool_itself false = refl

pub is_equal : (r : Ordering) → is_eq r ≡ true → r ≡ order.Equal
is_equal order.Equal h = refl
is_equal order.Less h = absurd (cc)
is_equal order.Greater h = absurd (cc)

its_reverse : (r : Ordering) → r ≡ ordering_reverse r → is_eq r ≡ true
its_reverse order.Equal h = refl
its_reverse order.Less h = absurd (cc)
its_reverse order.Greater h = absurd (cc)

value_exact : (d e : Datum) → same_value d e ≡ true → d ≡ e
value_exact d e h = datum_cmp_exact d e (is_equal (datum_cmp d e) h)

pub value_itself : (d : Datum) → same_value d d ≡ true
value_itself d = its_reverse (datum_cmp d d) (datum_cmp_total.antisymm d d)

values_exact : (ds es : List Datum) → same_values ds es ≡ true → ds ≡ es
values_exact [] [] h = refl
values_exact [] (e ∷ es) h = absurd (cc)
values_exact (d ∷ ds) [] h = absurd (cc)
values_exact (d ∷ ds) (e ∷ es) h = ap₂ ◌∷◌ (value_exact d e (and_left (same_value d e) (same_values ds es) h)) (values_exact ds es (and_right (same_value d e) (same_values ds es) h))

values_itself : (ds : List Datum) → same_values ds ds ≡ true
values_itself [] = refl
values_itself (d ∷ ds) = both _ _ (value_itself d) (values_itself ds)

column_of : ℕ → ℕ → ColumnId
column_of e c = record { entry = e; column = c }

pub column_exact : (a b : ColumnId) → is_column a b ≡ true → a ≡ b
unfolding column_of
column_exact a b h = ap₂ column_of (eqb-true a.entry b.entry (and_left (nat_eq a.entry b.entry) (nat_eq a.column b.column) h)) (eqb-true a.column b.column (and_right (nat_eq a.entry b.entry) (nat_eq a.column b.column) h))

number_itself : (n : ℕ) → nat_eq n n ≡ true
number_itself n = eq-eqb n n refl

mutual
  pub exact : (e f : BoundExpr) → same e f ≡ true → e ≡ f
  exact (Column a) (Column b) h = ap Column (column_exact a b h)
  exact (Literal d) (Literal e) h = ap Literal (value_exact d e h)
  exact CurrentUser CurrentUser h = refl
  exact (Negate o e) (Negate p f) h = ap₂ Negate (eqb-true o p (and_left (nat_eq o p) (same e f) h)) (exact e f (and_right (nat_eq o p) (same e f) h))
  exact (Arithmetic a o e f) (Arithmetic b p g k) h =
      let n = and_left (nat_eq (arithmetic_number a) (arithmetic_number b) && nat_eq o p) (same e g && same f k) h in
      let m = and_right (nat_eq (arithmetic_number a) (arithmetic_number b) && nat_eq o p) (same e g && same f k) h in
      ap₂ (λ x y. Arithmetic x y e f) (arithmetic_exact a b (and_left _ (nat_eq o p) n)) (eqb-true o p (and_right (nat_eq (arithmetic_number a) (arithmetic_number b)) _ n))
      ∙ ap₂ (Arithmetic b p) (exact e g (and_left _ (same f k) m)) (exact f k (and_right (same e g) _ m))
  exact (Comparison a o e f) (Comparison b p g k) h =
      let n = and_left (nat_eq (comparison_number a) (comparison_number b) && nat_eq o p) (same e g && same f k) h in
      let m = and_right (nat_eq (comparison_number a) (comparison_number b) && nat_eq o p) (same e g && same f k) h in
      ap₂ (λ x y. Comparison x y e f) (comparison_exact a b (and_left _ (nat_eq o p) n)) (eqb-true o p (and_right (nat_eq (comparison_number a) (comparison_number b)) _ n))
      ∙ ap₂ (Comparison b p) (exact e g (and_left _ (same f k) m)) (exact f k (and_right (same e g) _ m))
  exact (Between a o e f g) (Between b p u v w) h =
      let n = and_left (same_bool a b && nat_eq o p) (same e u && (same f v && same g w)) h in
      let m = and_right (same_bool a b && nat_eq o p) (same e u && (same f v && same g w)) h in
      let k = and_right (same e u) (same f v && same g w) m in
      ap₂ (λ x y. Between x y e f g) (bool_exact a b (and_left _ (nat_eq o p) n)) (eqb-true o p (and_right (same_bool a b) _ n))
      ∙ ap (λ x. Between b p x f g) (exact e u (and_left _ (same f v && same g w) m)) ∙ ap₂ (Between b p u) (exact f v (and_left _ (same g w) k)) (exact g w (and_right (same f v) _ k))
  exact (In a o vs e) (In b p ws f) h =
      let n = and_left (same_bool a b && (nat_eq o p && same_values vs ws)) (same e f) h in
      let m = and_right (same_bool a b) (nat_eq o p && same_values vs ws) n in
      ap₂ (λ x y. In x y vs e) (bool_exact a b (and_left _ (nat_eq o p && same_values vs ws) n)) (eqb-true o p (and_left _ (same_values vs ws) m))
      ∙ ap₂ (In b p) (values_exact vs ws (and_right (nat_eq o p) _ m)) (exact e f (and_right (same_bool a b && (nat_eq o p && same_values vs ws)) _ h))
  exact (IsNull a o e) (IsNull b p f) h =
      let n = and_left (same_bool a b && nat_eq o p) (same e f) h in
      ap₂ (λ x y. IsNull x y e) (bool_exact a b (and_left _ (nat_eq o p) n)) (eqb-true o p (and_right (same_bool a b) _ n)) ∙ ap (IsNull b p) (exact e f (and_right (same_bool a b && nat_eq o p) _ h))
  exact (Not o e) (Not p f) h = ap₂ Not (eqb-true o p (and_left (nat_eq o p) (same e f) h)) (exact e f (and_right (nat_eq o p) (same e f) h))
  exact (And o es) (And p fs) h = ap₂ And (eqb-true o p (and_left (nat_eq o p) (all_same es fs) h)) (all_exact es fs (and_right (nat_eq o p) (all_same es fs) h))
  exact (Or o es) (Or p fs) h = ap₂ Or (eqb-true o p (and_left (nat_eq o p) (all_same es fs) h)) (all_exact es fs (and_right (nat_eq o p) (all_same es fs) h))
  exact (Cast o t e) (Cast p u f) h =
      let n = and_left (nat_eq o p && nat_eq (type_number t) (type_number u)) (same e f) h in
      ap₂ (λ x y. Cast x y e) (eqb-true o p (and_left _ (nat_eq (type_number t) (type_number u)) n)) (type_exact t u (and_right (nat_eq o p) _ n)) ∙ ap (Cast p u) (exact e f (and_right (nat_eq o p && nat_eq (type_number t) (type_number u)) _ h))
  exact (Case o as_ x) (Case p bs y) h =
      let m = and_right (nat_eq o p) (arms_same as_ bs && otherwise_same x y) h in
      ap (λ n. Case n as_ x) (eqb-true o p (and_left (nat_eq o p) (arms_same as_ bs && otherwise_same x y) h))
      ∙ ap₂ (Case p) (arms_exact as_ bs (and_left _ (otherwise_same x y) m)) (otherwise_exact x y (and_right (arms_same as_ bs) _ m))
  exact (CountStar o) (CountStar p) h = ap CountStar (eqb-true o p h)
  exact (Call a o e) (Call b p f) h =
      let n = and_left (nat_eq (aggregate_number a) (aggregate_number b) && nat_eq o p) (same e f) h in
      ap₂ (λ x y. Call x y e) (aggregate_exact a b (and_left _ (nat_eq o p) n)) (eqb-true o p (and_right (nat_eq (aggregate_number a) (aggregate_number b)) _ n)) ∙ ap (Call b p) (exact e f (and_right (nat_eq (aggregate_number a) (aggregate_number b) && nat_eq o p) _ h))
  exact _ _ h = absurd (cc)

  all_exact : (es fs : BoundExprs) → all_same es fs ≡ true → es ≡ fs
  all_exact no_expr no_expr h = refl
  all_exact (one_expr e es) (one_expr f fs) h = ap₂ one_expr (exact e f (and_left _ (all_same es fs) h)) (all_exact es fs (and_right (same e f) _ h))
  all_exact _ _ h = absurd (cc)

  arms_exact : (as_ bs : BoundArms) → arms_same as_ bs ≡ true → as_ ≡ bs
  arms_exact no_arm no_arm h = refl
  arms_exact (one_arm d e as_) (one_arm f g bs) h =
      let p = and_left (same d f && same e g) (arms_same as_ bs) h in
      ap₂ (λ x y. one_arm x y as_) (exact d f (and_left _ (same e g) p)) (exact e g (and_right (same d f) _ p)) ∙ ap (one_arm f g) (arms_exact as_ bs (and_right (same d f && same e g) _ h))
  arms_exact _ _ h = absurd (cc)

  otherwise_exact : (x y : BoundOtherwise) → otherwise_same x y ≡ true → x ≡ y
  otherwise_exact Nothing Nothing h = refl
  otherwise_exact (Value e) (Value f) h = ap Value (exact e f h)
  otherwise_exact _ _ h = absurd (cc)

mutual
  itself : (e : BoundExpr) → same e e ≡ true
  itself (Column a) = both _ _ (number_itself a.entry) (number_itself a.column)
  itself (Literal d) = value_itself d
  itself CurrentUser = refl
  itself (Negate o e) = both _ _ (number_itself o) (itself e)
  itself (Arithmetic a o e f) = both _ _ (both _ _ (number_itself (arithmetic_number a)) (number_itself o)) (both _ _ (itself e) (itself f))
  itself (Comparison a o e f) = both _ _ (both _ _ (number_itself (comparison_number a)) (number_itself o)) (both _ _ (itself e) (itself f))
  itself (Between a o e f g) = both _ _ (both _ _ (bool_itself a) (number_itself o)) (both _ _ (itself e) (both _ _ (itself f) (itself g)))
  itself (In a o vs e) = both _ _ (both _ _ (bool_itself a) (both _ _ (number_itself o) (values_itself vs))) (itself e)
  itself (IsNull a o e) = both _ _ (both _ _ (bool_itself a) (number_itself o)) (itself e)
  itself (Not o e) = both _ _ (number_itself o) (itself e)
  itself (And o es) = both _ _ (number_itself o) (all_itself es)
  itself (Or o es) = both _ _ (number_itself o) (all_itself es)
  itself (Cast o t e) = both _ _ (both _ _ (number_itself o) (number_itself (type_number t))) (itself e)
  itself (Case o as_ x) = both _ _ (number_itself o) (both _ _ (arms_itself as_) (otherwise_itself x))
  itself (CountStar o) = number_itself o
  itself (Call a o e) = both _ _ (both _ _ (number_itself (aggregate_number a)) (number_itself o)) (itself e)

  all_itself : (es : BoundExprs) → all_same es es ≡ true
  all_itself no_expr = refl
  all_itself (one_expr e es) = both _ _ (itself e) (all_itself es)

  arms_itself : (as_ : BoundArms) → arms_same as_ as_ ≡ true
  arms_itself no_arm = refl
  arms_itself (one_arm d e as_) = both _ _ (both _ _ (itself d) (itself e)) (arms_itself as_)

  otherwise_itself : (x : BoundOtherwise) → otherwise_same x x ≡ true
  otherwise_itself Nothing = refl
  otherwise_itself (Value e) = itself e

pub decides : (e f : BoundExpr) → Decides (same e f) (e ≡ f)
decides e f = record { so = exact e f; if_so = λ q. ap (same e) (sym q) ∙ itself e }
