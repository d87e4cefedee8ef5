-- The value of an expression on a row, or its first fault from left to right.
use Rattle.std.specs.Prelude.{ℕ, Bool, false, List, Result, Ok, Err}
use Rattle.value.specs.Datum.{Datum, null, text}
use Rattle.value.specs.Orders.{is_true}
use Rattle.value.specs.Truths.{least, greatest, negated}
use Rattle.value.specs.Conditions.{truth_at, at_truth}
use Rattle.value.specs.Exact.{with_number, negated_of}
use Rattle.value.specs.Casts.{cast_of}
use Rattle.value.specs.declared.order.Truth.{Truth}
use Rattle.value.specs.declared.order.Truth.TheVariants.{False, Unknown, True}
use Rattle.value.specs.declared.types.ColType.{ColType}
use Rattle.value.specs.declared.types.FaultKind.{FaultKind}
use Rattle.value.specs.declared.operators.Arithmetic as operators
use Rattle.value.specs.declared.operators.Comparison as operators'
use Rattle.value.specs.declared.faults.Fault.{Fault}
use Rattle.expr.specs.declared.bound.ColumnId.{ColumnId}
use Rattle.expr.specs.Bound.{BoundExpr, Column, Literal, CurrentUser, Negate, Arithmetic, Comparison, Between, In, IsNull, Not, And, Or, Cast, Case, CountStar, Call, BoundExprs, no_expr, one_expr, BoundArms, no_arm, one_arm, BoundOtherwise, Nothing, Value}
use Rattle.eval.specs.Operators.{arithmetic_of, comparison_of, between_of, in_of, null_test, negated_if}

-- the values that an expression reads: the cell in a column, and the value of the aggregate whose name is at an offset
-- of the text
pub record Cells : Type 0 where
  pub column : ColumnId → Datum
  pub aggregate : ℕ → Datum

-- a row has no aggregates, and no expression that is evaluated on one has (query_laws::law_admitted); so null never
-- replaces one
abbrev pub no_aggregate : ℕ → Datum
no_aggregate offset = null

-- a value, or a fault
abbrev pub Outcome : Type 0
Outcome = Result Datum Fault

-- the first fault, or the next outcome by the value
infixl 10 ◌>>=◌
abbrev pub ◌>>=◌ : {A B : Type 0} → Result A Fault → (A → Result B Fault) → Result B Fault
(Ok x) >>= f = f x
(Err e) >>= f = Err e

abbrev pub at_offset : ℕ → Result Datum FaultKind → Outcome
at_offset offset (Ok d) = Ok d
at_offset offset (Err kind) = Err (record { offset = offset; kind = kind })

-- ---- operators

abbrev pub negation : ℕ → Outcome → Outcome
negation offset m = m >>= λ x. at_offset offset (with_number negated_of x)

abbrev pub arithmetic : operators.Arithmetic → ℕ → Outcome → Outcome → Outcome
arithmetic operator offset m n = m >>= λ x. n >>= λ y. at_offset offset (arithmetic_of operator x y)

abbrev pub comparison : operators'.Comparison → Outcome → Outcome → Outcome
comparison operator m n = m >>= λ x. n >>= λ y. Ok (at_truth (comparison_of operator x y))

abbrev pub between : Bool → Outcome → Outcome → Outcome → Outcome
between negated m low high = m >>= λ x. low >>= λ y. high >>= λ z. Ok (at_truth (negated_if negated (between_of x y z)))

abbrev pub membership : Bool → Outcome → List Datum → Outcome
membership negated m values = m >>= λ x. Ok (at_truth (negated_if negated (in_of x values)))

abbrev pub null_check : Bool → Outcome → Outcome
null_check negated m = m >>= λ x. Ok (at_truth (negated_if negated (null_test x)))

abbrev pub logical_not : Outcome → Outcome
logical_not m = m >>= λ x. Ok (at_truth (negated (truth_at x)))

abbrev pub cast_at : ColType → ℕ → Outcome → Outcome
cast_at to offset m = m >>= λ x. at_offset offset (cast_of to x)

-- ---- conditions

abbrev pub condition : Outcome → Result Truth Fault
condition (Ok d) = Ok (truth_at d)
condition (Err fault) = Err fault

abbrev pub as_datum : Result Truth Fault → Outcome
as_datum (Ok t) = Ok (at_truth t)
as_datum (Err fault) = Err fault

abbrev pub with_least : Truth → Result Truth Fault → Result Truth Fault
with_least t (Ok u) = Ok (least t u)
with_least t (Err fault) = Err fault

abbrev pub with_greatest : Truth → Result Truth Fault → Result Truth Fault
with_greatest t (Ok u) = Ok (greatest t u)
with_greatest t (Err fault) = Err fault

-- AND: the conditions after a false one are not evaluated
abbrev pub unless_false : Result Truth Fault → Result Truth Fault → Result Truth Fault
unless_false (Ok False) more = Ok False
unless_false (Ok Unknown) more = with_least Unknown more
unless_false (Ok True) more = with_least True more
unless_false (Err fault) more = Err fault

-- OR: the conditions after a true one are not evaluated
abbrev pub unless_true : Result Truth Fault → Result Truth Fault → Result Truth Fault
unless_true (Ok True) more = Ok True
unless_true (Ok Unknown) more = with_greatest Unknown more
unless_true (Ok False) more = with_greatest False more
unless_true (Err fault) more = Err fault

-- WHEN: the result where the condition is true, else the rest
abbrev pub when_true : Result Truth Fault → Outcome → Outcome → Outcome
when_true (Ok True) result rest = result
when_true (Ok Unknown) result rest = rest
when_true (Ok False) result rest = rest
when_true (Err fault) result rest = Err fault

-- null, false and a fault are not true
abbrev pub is_true_outcome : Outcome → Bool
is_true_outcome (Ok d) = is_true (truth_at d)
is_true_outcome (Err fault) = false

-- ---- expressions

module _ (cells : Cells) (role : List ℕ) where
  abbrev mutual
    pub meaning : BoundExpr → Outcome
    meaning (Column id) = Ok (cells.column id)
    meaning (Literal d) = Ok d
    meaning CurrentUser = Ok (text role)
    meaning (Negate offset e) = negation offset (meaning e)
    meaning (Arithmetic operator offset e f) = arithmetic operator offset (meaning e) (meaning f)
    meaning (Comparison operator offset e f) = comparison operator (meaning e) (meaning f)
    meaning (Between negated offset e low high) = between negated (meaning e) (meaning low) (meaning high)
    meaning (In negated offset values e) = membership negated (meaning e) values
    meaning (IsNull negated offset e) = null_check negated (meaning e)
    meaning (Not offset e) = logical_not (meaning e)
    meaning (And offset es) = as_datum (conjunction es)
    meaning (Or offset es) = as_datum (disjunction es)
    meaning (Cast offset to e) = cast_at to offset (meaning e)
    meaning (Case offset as_ o) = chosen as_ (otherwise o)
    meaning (CountStar offset) = Ok (cells.aggregate offset)
    meaning (Call aggregate offset e) = Ok (cells.aggregate offset)

    pub conjunction : BoundExprs → Result Truth Fault
    conjunction no_expr = Ok True
    conjunction (one_expr e es) = unless_false (condition (meaning e)) (conjunction es)

    pub disjunction : BoundExprs → Result Truth Fault
    disjunction no_expr = Ok False
    disjunction (one_expr e es) = unless_true (condition (meaning e)) (disjunction es)

    -- the result of the first arm whose condition is true, else the rest
    pub chosen : BoundArms → Outcome → Outcome
    chosen no_arm rest = rest
    chosen (one_arm when result as_) rest = when_true (condition (meaning when)) (meaning result) (chosen as_ rest)

    pub otherwise : BoundOtherwise → Outcome
    otherwise Nothing = Ok null
    otherwise (Value e) = meaning e

  -- the value is TRUE
  abbrev pub holds : BoundExpr → Bool
  holds e = is_true_outcome (meaning e)
