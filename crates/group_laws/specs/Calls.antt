-- The offsets of the aggregates of an expression or a query as its text has them, in written order.
use Rattle.std.specs.Prelude.{ℕ, List, [], ◌∷◌, ◌++◌, Option, Some, None}
use Rattle.std.specs.List.{flat_map}
use Rattle.row_ast.specs.Ast.{Expr, Column, Literal, CurrentUser, Negate, Arithmetic, Comparison, Between, In, IsNull, Not, And, Or, Cast, Case, CountStar, Call, Exprs, no_expr, one_expr, Arms, no_arm, one_arm, Otherwise, Nothing, Value, Condition, SelectItem, SelectList, All, Items, Query}

abbrev mutual
  pub call_offsets : Expr → List ℕ
  call_offsets (Column c) = []
  call_offsets (Literal d) = []
  call_offsets CurrentUser = []
  call_offsets (Negate offset e) = call_offsets e
  call_offsets (Arithmetic op offset e f) = call_offsets e ++ call_offsets f
  call_offsets (Comparison op offset e f) = call_offsets e ++ call_offsets f
  call_offsets (Between negated offset e low high) = call_offsets e ++ (call_offsets low ++ call_offsets high)
  call_offsets (In negated offset values e) = call_offsets e
  call_offsets (IsNull negated offset e) = call_offsets e
  call_offsets (Not offset e) = call_offsets e
  call_offsets (And offset es) = all_call_offsets es
  call_offsets (Or offset es) = all_call_offsets es
  call_offsets (Cast offset to e) = call_offsets e
  call_offsets (Case offset as_ o) = arms_call_offsets as_ ++ otherwise_call_offsets o
  call_offsets (CountStar offset) = offset ∷ []
  -- not those in its argument
  call_offsets (Call aggregate offset e) = offset ∷ []

  pub all_call_offsets : Exprs → List ℕ
  all_call_offsets no_expr = []
  all_call_offsets (one_expr e es) = call_offsets e ++ all_call_offsets es

  pub arms_call_offsets : Arms → List ℕ
  arms_call_offsets no_arm = []
  arms_call_offsets (one_arm when result as_) = call_offsets when ++ (call_offsets result ++ arms_call_offsets as_)

  pub otherwise_call_offsets : Otherwise → List ℕ
  otherwise_call_offsets Nothing = []
  otherwise_call_offsets (Value e) = call_offsets e

abbrev pub item_call_offsets : SelectItem → List ℕ
item_call_offsets i = call_offsets i.value

-- * has none
abbrev pub select_call_offsets : SelectList → List ℕ
select_call_offsets (All offset) = []
select_call_offsets (Items items) = flat_map item_call_offsets items

abbrev pub condition_call_offsets : Option Condition → List ℕ
condition_call_offsets None = []
condition_call_offsets (Some c) = call_offsets c.predicate

-- of the items and then of HAVING
abbrev pub query_call_offsets : Query → List ℕ
query_call_offsets q = select_call_offsets q.select ++ condition_call_offsets q.having
