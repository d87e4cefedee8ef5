-- The type of a bound expression, of which each operation is well typed.
use Rattle.std.specs.Prelude.{List, Option, Some, None}
use Rattle.value.specs.declared.types.ColType.TheVariants.{Bigint, Text, Boolean}
use Rattle.value.specs.declared.operators.Aggregate.{Aggregate}
use Rattle.value.specs.declared.operators.Aggregate.TheVariants.{Count, Sum, Min, Max}
use Rattle.expr.specs.Bound.{BoundExpr, Column, Literal, CurrentUser, Negate, Arithmetic, Comparison, Between, In, IsNull, Not, And, Or, Cast, Case, CountStar, Call, BoundArms, no_arm, one_arm, BoundOtherwise, Nothing, Value}
use Rattle.scope.specs.Entry.{Entry}
use Rattle.typing.specs.Typing.{TypeOf, column_type, type_of}

-- the first that is not that of NULL
abbrev pub first_type : TypeOf → TypeOf → TypeOf
first_type (Some t) second = Some t
first_type None second = second

-- that of an aggregate, after that of its argument
abbrev pub call_type : Aggregate → TypeOf → TypeOf
call_type Count t = Some Bigint
call_type Sum t = Some Bigint
call_type Min t = t
call_type Max t = t

module _ (entries : List Entry) where
  abbrev mutual
    pub bound_type : BoundExpr → TypeOf
    bound_type (Column id) = column_type entries id
    bound_type (Literal d) = type_of d
    bound_type CurrentUser = Some Text
    bound_type (Negate offset e) = Some Bigint
    bound_type (Arithmetic op offset e f) = Some Bigint
    bound_type (Comparison op offset e f) = Some Boolean
    bound_type (Between negated offset e low high) = Some Boolean
    bound_type (In negated offset values e) = Some Boolean
    bound_type (IsNull negated offset e) = Some Boolean
    bound_type (Not offset e) = Some Boolean
    bound_type (And offset es) = Some Boolean
    bound_type (Or offset es) = Some Boolean
    bound_type (Cast offset to e) = Some to
    bound_type (Case offset as_ o) = first_type (arms_type as_) (otherwise_type o)
    bound_type (CountStar offset) = Some Bigint
    bound_type (Call f offset e) = call_type f (bound_type e)

    -- that of the first result that is not NULL's
    pub arms_type : BoundArms → TypeOf
    arms_type no_arm = None
    arms_type (one_arm when result as_) = first_type (bound_type result) (arms_type as_)

    -- without ELSE it is NULL's
    pub otherwise_type : BoundOtherwise → TypeOf
    otherwise_type Nothing = None
    otherwise_type (Value e) = bound_type e
