-- The aggregates of an expression, in written order.
use Rattle.std.specs.Prelude.{ℕ, List, [], ◌∷◌, ◌++◌, Option, Some, None}
use Rattle.value.specs.declared.operators.Aggregate.{Aggregate}
use Rattle.value.specs.declared.operators.Aggregate.TheVariants.{Count}
use Rattle.expr.specs.Bound.{BoundExpr, Column, Literal, CurrentUser, Negate, Arithmetic, Comparison, Between, In, IsNull, Not, And, Or, Cast, Case, CountStar, Call, BoundExprs, no_expr, one_expr, BoundArms, no_arm, one_arm, BoundOtherwise, Nothing, Value}

-- an aggregate as it is written, and the offset of its name; count(*) has no argument
pub record AggregateCall : Type 0 where
  pub aggregate : Aggregate
  pub offset : ℕ
  pub argument : Option BoundExpr

abbrev mutual
  pub aggregates : BoundExpr → List AggregateCall
  aggregates (Column id) = []
  aggregates (Literal d) = []
  aggregates CurrentUser = []
  aggregates (Negate offset e) = aggregates e
  aggregates (Arithmetic op offset e f) = aggregates e ++ aggregates f
  aggregates (Comparison op offset e f) = aggregates e ++ aggregates f
  aggregates (Between negated offset e low high) = aggregates e ++ (aggregates low ++ aggregates high)
  aggregates (In negated offset values e) = aggregates e
  aggregates (IsNull negated offset e) = aggregates e
  aggregates (Not offset e) = aggregates e
  aggregates (And offset es) = all_aggregates es
  aggregates (Or offset es) = all_aggregates es
  aggregates (Cast offset to e) = aggregates e
  aggregates (Case offset as_ o) = arms_aggregates as_ ++ otherwise_aggregates o
  aggregates (CountStar offset) = record { aggregate = Count; offset = offset; argument = None } ∷ []
  -- there is none in its argument
  aggregates (Call aggregate offset e) = record { aggregate = aggregate; offset = offset; argument = Some e } ∷ []

  pub all_aggregates : BoundExprs → List AggregateCall
  all_aggregates no_expr = []
  all_aggregates (one_expr e es) = aggregates e ++ all_aggregates es

  pub arms_aggregates : BoundArms → List AggregateCall
  arms_aggregates no_arm = []
  arms_aggregates (one_arm when result as_) = aggregates when ++ (aggregates result ++ arms_aggregates as_)

  pub otherwise_aggregates : BoundOtherwise → List AggregateCall
  otherwise_aggregates Nothing = []
  otherwise_aggregates (Value e) = aggregates e
