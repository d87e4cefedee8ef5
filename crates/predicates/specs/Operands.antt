-- The operands of an expression, and its node besides them.
use Rattle.std.specs.Prelude.{◌≡◌, ℕ, nat_eq, Bool, true, false, not, ◌&&◌, List, [], ◌∷◌}
use Rattle.std.specs.Ordering.{is_eq}
use Rattle.value.specs.Datum.{Datum}
use Rattle.value.specs.Orders.{datum_cmp}
use Rattle.value.specs.declared.types.ColType as types
use Rattle.value.specs.declared.types.ColType.TheVariants as type
use Rattle.value.specs.declared.operators.Arithmetic as operators
use Rattle.value.specs.declared.operators.Arithmetic.TheVariants as arithmetic
use Rattle.value.specs.declared.operators.Comparison as operators'
use Rattle.value.specs.declared.operators.Comparison.TheVariants as comparison
use Rattle.value.specs.declared.operators.Aggregate as operators''
use Rattle.value.specs.declared.operators.Aggregate.TheVariants as aggregate
use Rattle.expr.specs.Bound.{is_column}
use Rattle.expr.specs.Bound.{BoundExpr, Column, Literal, CurrentUser, Negate, Arithmetic, Comparison, Between, In, IsNull, Not, And, Or, Cast, Case, CountStar, Call, BoundExprs, BoundArms, BoundOtherwise}

pub data Operands : Type 0 where
  none : Operands
  one : BoundExpr → Operands
  two : BoundExpr → BoundExpr → Operands
  three : BoundExpr → BoundExpr → BoundExpr → Operands
  members : BoundExprs → Operands
  arms : BoundArms → BoundOtherwise → Operands

abbrev pub operands : BoundExpr → Operands
operands (Column id) = none
operands (Literal d) = none
operands CurrentUser = none
operands (Negate offset e) = one e
operands (Arithmetic op offset e f) = two e f
operands (Comparison op offset e f) = two e f
operands (Between negated offset e low high) = three e low high
operands (In negated offset values e) = one e
operands (IsNull negated offset e) = one e
operands (Not offset e) = one e
operands (And offset es) = members es
operands (Or offset es) = members es
operands (Cast offset to e) = one e
operands (Case offset as_ o) = arms as_ o
operands (CountStar offset) = none
operands (Call f offset e) = one e

-- ---- the same but for the operands

abbrev pub arithmetic_number : operators.Arithmetic → ℕ
arithmetic_number arithmetic.Add = 0
arithmetic_number arithmetic.Subtract = 1
arithmetic_number arithmetic.Multiply = 2
arithmetic_number arithmetic.Divide = 3
arithmetic_number arithmetic.Remainder = 4

abbrev pub comparison_number : operators'.Comparison → ℕ
comparison_number comparison.Equal = 0
comparison_number comparison.NotEqual = 1
comparison_number comparison.Less = 2
comparison_number comparison.LessOrEqual = 3
comparison_number comparison.Greater = 4
comparison_number comparison.GreaterOrEqual = 5

abbrev pub type_number : types.ColType → ℕ
type_number type.Bigint = 0
type_number type.Text = 1
type_number type.Boolean = 2

abbrev pub aggregate_number : operators''.Aggregate → ℕ
aggregate_number aggregate.Count = 0
aggregate_number aggregate.Sum = 1
aggregate_number aggregate.Min = 2
aggregate_number aggregate.Max = 3

abbrev pub same_bool : Bool → Bool → Bool
same_bool true b = b
same_bool false b = not b

abbrev pub same_value : Datum → Datum → Bool
same_value d e = is_eq (datum_cmp d e)

abbrev pub same_values : List Datum → List Datum → Bool
same_values [] [] = true
same_values [] (e ∷ es) = false
same_values (d ∷ ds) [] = false
same_values (d ∷ ds) (e ∷ es) = same_value d e && same_values ds es

abbrev pub same_node : BoundExpr → BoundExpr → Bool
same_node (Column id) (Column other) = is_column id other
same_node (Literal d) (Literal e) = same_value d e
same_node CurrentUser CurrentUser = true
same_node (Negate offset e) (Negate at f) = nat_eq offset at
same_node (Arithmetic op offset e f) (Arithmetic oq at g h) = nat_eq (arithmetic_number op) (arithmetic_number oq) && nat_eq offset at
same_node (Comparison op offset e f) (Comparison oq at g h) = nat_eq (comparison_number op) (comparison_number oq) && nat_eq offset at
same_node (Between negated offset e low high) (Between denied at f least most) = same_bool negated denied && nat_eq offset at
same_node (In negated offset values e) (In denied at others f) = same_bool negated denied && (nat_eq offset at && same_values values others)
same_node (IsNull negated offset e) (IsNull denied at f) = same_bool negated denied && nat_eq offset at
same_node (Not offset e) (Not at f) = nat_eq offset at
same_node (And offset es) (And at fs) = nat_eq offset at
same_node (Or offset es) (Or at fs) = nat_eq offset at
same_node (Cast offset to e) (Cast at into f) = nat_eq offset at && nat_eq (type_number to) (type_number into)
same_node (Case offset as_ o) (Case at bs p) = nat_eq offset at
same_node (CountStar offset) (CountStar at) = nat_eq offset at
same_node (Call f offset e) (Call g at h) = nat_eq (aggregate_number f) (aggregate_number g) && nat_eq offset at
same_node _ _ = false

-- an answer that says whether something is so
pub record Decides (answer : Bool) (P : Type 0) : Type 0 where
  pub so : answer ≡ true → P
  pub if_so : P → answer ≡ true
