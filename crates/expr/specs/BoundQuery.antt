-- A query with each column found.
use Rattle.std.specs.Prelude.{ℕ, Bool, List, Option}
use Rattle.value.specs.Names.{Name}
use Rattle.expr.specs.declared.bound.ColumnId.{ColumnId}
use Rattle.expr.specs.Bound.{BoundExpr}
use Rattle.expr.specs.declared.query.OutputKey.{OutputKey}

-- an output column
pub record BoundItem : Type 0 where
  pub heading : Name
  pub value : BoundExpr

pub record BoundQuery : Type 0 where
  pub items : List BoundItem
  -- of each entry
  pub ons : List (Option BoundExpr)
  -- so many entries, the last ones, are left joined
  pub left_count : ℕ
  pub filter : Option BoundExpr
  pub group_by : List ColumnId
  pub having : Option BoundExpr
  -- it has GROUP BY, HAVING, or an aggregate in an item
  pub is_grouped : Bool
  pub order_by : List OutputKey
  pub limit : Option ℕ
