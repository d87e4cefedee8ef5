-- The aggregates of an expression have arguments but for count(*), and those of an admitted query plain ones.
use Rattle.std.proofs.Common.{◌≡◌, Bool, true, false, List, [], ◌++◌, None, Some, refl}
use Rattle.std.specs.Prelude.{option_to_list}
use Rattle.std.specs.List.{All}
use Rattle.std.proofs.lemmas.List.Elements.{All-append, All-cons, All-nil, All-same}
use Rattle.value.specs.declared.operators.Aggregate.TheVariants.{Count}
use Rattle.expr.specs.Bound.{BoundExpr, Column, Literal, CurrentUser, Negate, Arithmetic, Comparison, Between, In, IsNull, Not, And, Or, Cast, Case, CountStar, Call, BoundExprs, no_expr, one_expr, BoundArms, no_arm, one_arm, BoundOtherwise, Nothing, Value}
use Rattle.expr.specs.Aggregates.{AggregateCall, aggregates, all_aggregates, arms_aggregates, otherwise_aggregates}
use Rattle.expr.specs.BoundQuery.{BoundQuery}
use Rattle.report.specs.QueryStages.{item_aggregates, query_aggregates}
use Rattle.query_laws.specs.Admitted.{HasPlainArgument, IsOutput, IsPlaced}
use Rattle.group_laws.proofs.Kept.{all_of_each}

-- ---- what has no argument is count(*)

abbrev pub IsWritten : AggregateCall → Type 0
IsWritten call = call.argument ≡ None → call.aggregate ≡ Count

none : All IsWritten []
none = All-nil IsWritten

both : (calls more : List AggregateCall) → All IsWritten calls → All IsWritten more → All IsWritten (calls ++ more)
both calls more h k = All-append IsWritten calls more h k

mutual
  pub are_written : (x : BoundExpr) → All IsWritten (aggregates x)
  are_written (Column id) = none
  are_written (Literal d) = none
  are_written CurrentUser = none
  are_written (Negate offset e) = are_written e
  are_written (Arithmetic op offset e f) = both (aggregates e) (aggregates f) (are_written e) (are_written f)
  are_written (Comparison op offset e f) = both (aggregates e) (aggregates f) (are_written e) (are_written f)
  are_written (Between negated offset e low high) = both (aggregates e) (aggregates low ++ aggregates high) (are_written e) (both (aggregates low) (aggregates high) (are_written low) (are_written high))
  are_written (In negated offset values e) = are_written e
  are_written (IsNull negated offset e) = are_written e
  are_written (Not offset e) = are_written e
  are_written (And offset es) = members_written es
  are_written (Or offset es) = members_written es
  are_written (Cast offset to e) = are_written e
  are_written (Case offset as_ o) = both (arms_aggregates as_) (otherwise_aggregates o) (arms_written as_) (otherwise_written o)
  are_written (CountStar offset) = All-cons IsWritten record { aggregate = Count; offset = offset; argument = None } [] (λ e. refl) none
  are_written (Call f offset e) = All-cons IsWritten record { aggregate = f; offset = offset; argument = Some e } [] (λ h. absurd (cc)) none

  members_written : (es : BoundExprs) → All IsWritten (all_aggregates es)
  members_written no_expr = none
  members_written (one_expr e es) = both (aggregates e) (all_aggregates es) (are_written e) (members_written es)

  arms_written : (as_ : BoundArms) → All IsWritten (arms_aggregates as_)
  arms_written no_arm = none
  arms_written (one_arm when result as_) =
      both (aggregates when) (aggregates result ++ arms_aggregates as_) (are_written when) (both (aggregates result) (arms_aggregates as_) (are_written result) (arms_written as_))

  otherwise_written : (o : BoundOtherwise) → All IsWritten (otherwise_aggregates o)
  otherwise_written Nothing = none
  otherwise_written (Value e) = are_written e

-- ---- arguments have no aggregates

module _ (q : BoundQuery) where
  output_plain : (b : Bool) → q.is_grouped ≡ b → (e : BoundExpr) → IsOutput q e → All HasPlainArgument (aggregates e)
  output_plain true is e h = (h.0 is).arguments
  output_plain false is e h = All-same HasPlainArgument (aggregates e) [] (h.1 is) (All-nil HasPlainArgument)

  pub arguments_plain : IsPlaced q → All HasPlainArgument (query_aggregates q)
  arguments_plain placed =
      All-append HasPlainArgument _ _
      (all_of_each HasPlainArgument item_aggregates q.items (λ k d lt. output_plain q.is_grouped refl _ (placed.items k d lt)))
      (all_of_each HasPlainArgument aggregates (option_to_list q.having) (λ k d lt. output_plain q.is_grouped refl _ (placed.having k d lt)))
