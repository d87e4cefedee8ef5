-- The views of the Rust types of bound trees as spec data.
use Rattle.std.specs.Prelude.{List, Option, Some, None, Box, map, option_map}
use Rattle.value.specs.Datum.{datum}
use Rattle.expr.specs.Codes.{Code, Empty, Steps}
use Rattle.expr.specs.declared.code.Code as code
use Rattle.expr.specs.declared.code.Code.TheVariants as code_variants
use Rattle.expr.specs.Bound as bound
use Rattle.expr.specs.declared.bound.BoundExpr.{BoundExpr, Column, Literal, CurrentUser, Negate', Arithmetic', Comparison', Between', In', IsNull', Not', And', Or', Cast', Case', CountStar, Call', Row_of-BoundExpr, end_of-BoundExpr, more_of-BoundExpr, Row_of-BoundArm, end_of-BoundArm, more_of-BoundArm, Held-BoundExpr-Case-2, None', Some'}
use Rattle.expr.specs.declared.bound.BoundArm.{BoundArm}
use Rattle.expr.specs.declared.aggregates.AggregateCall as call
use Rattle.expr.specs.Aggregates.{AggregateCall}
use Rattle.expr.specs.declared.query.BoundItem as item
use Rattle.expr.specs.declared.query.BoundQuery as query
use Rattle.expr.specs.BoundQuery.{BoundItem, BoundQuery}

abbrev mutual
  pub bound_expr_of : {A : Type 0} → BoundExpr A → bound.BoundExpr
  bound_expr_of (Column id) = bound.Column id
  bound_expr_of (Literal v) = bound.Literal (datum v)
  bound_expr_of CurrentUser = bound.CurrentUser
  bound_expr_of (Negate' offset p a) = bound.Negate offset (bound_expr_of a)
  bound_expr_of (Arithmetic' op offset p a q b) = bound.Arithmetic op offset (bound_expr_of a) (bound_expr_of b)
  bound_expr_of (Comparison' op offset p a q b) = bound.Comparison op offset (bound_expr_of a) (bound_expr_of b)
  bound_expr_of (Between' negated offset p a q b r c) = bound.Between negated offset (bound_expr_of a) (bound_expr_of b) (bound_expr_of c)
  bound_expr_of (In' negated offset vs p a) = bound.In negated offset (map datum vs) (bound_expr_of a)
  bound_expr_of (IsNull' negated offset p a) = bound.IsNull negated offset (bound_expr_of a)
  bound_expr_of (Not' offset p a) = bound.Not offset (bound_expr_of a)
  bound_expr_of (And' offset shape row) = bound.And offset (row_exprs row)
  bound_expr_of (Or' offset shape row) = bound.Or offset (row_exprs row)
  bound_expr_of (Cast' offset to p a) = bound.Cast offset to (bound_expr_of a)
  bound_expr_of (Case' offset shape row o) = bound.Case offset (row_arms row) (held o)
  bound_expr_of (CountStar offset) = bound.CountStar offset
  bound_expr_of (Call' f offset p a) = bound.Call f offset (bound_expr_of a)

  pub row_exprs : {A : Type 0} {n : _} → Row_of-BoundExpr A n → bound.BoundExprs
  row_exprs end_of-BoundExpr = bound.no_expr
  row_exprs (more_of-BoundExpr e rest) = bound.one_expr (bound_expr_of e) (row_exprs rest)

  pub row_arms : {A : Type 0} {n : _} → Row_of-BoundArm A n → bound.BoundArms
  row_arms end_of-BoundArm = bound.no_arm
  row_arms (more_of-BoundArm when result rest) = bound.one_arm (bound_expr_of when) (bound_expr_of result) (row_arms rest)

  pub held : {A : Type 0} → Held-BoundExpr-Case-2 A → bound.BoundOtherwise
  held None' = bound.Nothing
  held (Some' p e) = bound.Value (bound_expr_of e)

abbrev pub bound_exprs : {A : Type 0} → List (BoundExpr A) → bound.BoundExprs
bound_exprs es = bound.bound_exprs_of (map bound_expr_of es)

abbrev pub bound_arm_pair : {A : Type 0} → BoundArm A → bound.BoundExpr × bound.BoundExpr
bound_arm_pair a = (bound_expr_of a.when, bound_expr_of a.result)

abbrev pub bound_arms : {A : Type 0} → List (BoundArm A) → bound.BoundArms
bound_arms as_ = bound.bound_arms_of (map bound_arm_pair as_)

-- ELSE, if it is there
abbrev pub otherwise_of : {A : Type 0} → Option (Box (BoundExpr A) A) → bound.BoundOtherwise
otherwise_of None = bound.Nothing
otherwise_of (Some b) = bound.Value (bound_expr_of b.value)

abbrev pub aggregate_call_of : {A : Type 0} → call.AggregateCall A → AggregateCall
aggregate_call_of c = record { aggregate = c.aggregate; offset = c.offset; argument = option_map (λ e. bound_expr_of e.now) c.argument }

abbrev pub aggregate_calls_of : {A : Type 0} → List (call.AggregateCall A) → List AggregateCall
aggregate_calls_of calls = map (λ c. aggregate_call_of c) calls

abbrev pub bound_item_of : {A : Type 0} → item.BoundItem A → BoundItem
bound_item_of i = record { heading = i.heading; value = bound_expr_of i.value.value }

abbrev pub bound_items_of : {A : Type 0} → List (item.BoundItem A) → List BoundItem
bound_items_of items = map (λ i. bound_item_of i) items

abbrev pub bound_query_of : {A : Type 0} → query.BoundQuery A → BoundQuery
bound_query_of q = record {
  items = bound_items_of q.items;
  ons = map (λ o. option_map (λ b. bound_expr_of b.value) o) q.ons;
  left_count = q.left_count;
  filter = option_map (λ b. bound_expr_of b.value) q.filter;
  group_by = q.group_by;
  having = option_map (λ b. bound_expr_of b.value) q.having;
  is_grouped = q.is_grouped;
  order_by = q.order_by;
  limit = q.limit;
}

abbrev pub code_of : {A : Type 0} → code.Code A → Code
code_of code_variants.Empty = Empty
code_of (code_variants.Steps steps) = Steps steps
