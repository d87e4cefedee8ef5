-- Laws of the types of expressions.
use Rattle.std.specs.Prelude.{◌≡◌, ℕ, Contains, List, Option, Some, None, Ok, IfOk}
use Rattle.row_ast.specs.Ast as ast
use Rattle.value.specs.declared.operators.Aggregate.{Aggregate}
use Rattle.expr.specs.declared.bound.ColumnId.{ColumnId}
use Rattle.expr.specs.Bound.{BoundExpr, CountStar, Call}
use Rattle.expr.specs.Aggregates.{AggregateCall, aggregates}
use Rattle.eval.specs.Meaning.{Cells, Outcome, meaning}
use Rattle.scope.specs.declared.lookup.Scope.{Scope}
use Rattle.scope.specs.Entry.{Entry}
use Rattle.scope.specs.BoundExprs.{bound_expr}
use Rattle.typing.specs.Typing.{TypeOf, column_type, typed}
use Rattle.type_laws.specs.Rules.{HasType, IsOfType}

-- what type checking admits with a type has that type by the rules
abbrev pub TypesByRules : Type 0
TypesByRules = (entries : List Entry) (scope : Scope) (e : ast.Expr) (t : TypeOf) (x : BoundExpr) → typed entries scope e ≡ Ok t → bound_expr entries scope e ≡ Ok x → IsOfType entries x t

-- what has a type by the rules is admitted by type checking with that type
abbrev pub WhatRulesTypeIsAdmitted : Type 0
WhatRulesTypeIsAdmitted = (entries : List Entry) (scope : Scope) (e : ast.Expr) (t : TypeOf) (x : BoundExpr) → IsOfType entries x t → bound_expr entries scope e ≡ Ok x → typed entries scope e ≡ Ok t

-- an expression has one type at most
abbrev pub TypesAreDetermined : Type 0
TypesAreDetermined = (entries : List Entry) (x : BoundExpr) (a b : TypeOf) → IsOfType entries x a → IsOfType entries x b → a ≡ b

-- ---- values

-- the expression that an aggregate is
abbrev pub call_of : Aggregate → ℕ → Option BoundExpr → BoundExpr
call_of aggregate offset None = CountStar offset
call_of aggregate offset (Some e) = Call aggregate offset e

abbrev pub IsCallType : List Entry → AggregateCall → TypeOf → Type 0
IsCallType entries call t = IsOfType entries (call_of call.aggregate call.offset call.argument) t

-- each cell is of the type of its column or null, and the value of each of these aggregates of its type or null
pub record CellsFit (entries : List Entry) (calls : List AggregateCall) (cells : Cells) : Type 0 where
  pub columns : (id : ColumnId) → HasType (column_type entries id) (cells.column id)
  pub aggregates : (call : AggregateCall) → Contains calls call → (t : TypeOf) → IsCallType entries call t → HasType t (cells.aggregate call.offset)

-- a value of the type, null or a fault
abbrev pub GivesType : TypeOf → Outcome → Type 0
GivesType t m = IfOk m (HasType t)

-- on cells that fit, an expression with a type gives a value of the type, null or a fault
abbrev pub ValuesHaveTypes : Type 0
ValuesHaveTypes = (entries : List Entry) (cells : Cells) (role : List ℕ) (x : BoundExpr) (t : TypeOf) → IsOfType entries x t → CellsFit entries (aggregates x) cells → GivesType t (meaning cells role x)
