-- The tree of a bound condition: each column by the alias of its entry, all else kept.
use Rattle.std.specs.Prelude.{ℕ, List, [], Option, Some, None}
use Rattle.std.specs.List.{slice_get}
use Rattle.value.specs.Columns.{Column}
use Rattle.value.specs.Names.{Name}
use Rattle.row_ast.specs.Ast as ast
use Rattle.expr.specs.Bound as bound
use Rattle.expr.specs.Bound.{BoundExpr, BoundExprs, BoundArms, BoundOtherwise}
use Rattle.expr.specs.declared.bound.ColumnId.{ColumnId}
use Rattle.scope.specs.Entry.{Entry}

-- the name of a column, empty where there is none
abbrev pub name_of_column : Option Column → Name
name_of_column None = []
name_of_column (Some c) = c.name

-- the alias of an entry, empty where there is none
abbrev pub alias_of_entry : Option Entry → Name
alias_of_entry None = []
alias_of_entry (Some e) = e.alias

-- the name of the column of that index in the table of an entry
abbrev pub column_name : Option Entry → ℕ → Name
column_name None column = []
column_name (Some e) column = name_of_column (slice_get e.table.columns column)

module _ (entries : List Entry) where
  -- alias.column
  abbrev pub name_of : ColumnId → ast.ColumnRef
  name_of id = record { table = Some (alias_of_entry (slice_get entries id.entry)); name = column_name (slice_get entries id.entry) id.column; offset = 0 }

  abbrev mutual
    -- the condition with each column named
    pub named : BoundExpr → ast.Expr
    named (bound.Column id) = ast.Column (name_of id)
    named (bound.Literal d) = ast.Literal d
    named bound.CurrentUser = ast.CurrentUser
    named (bound.Negate offset e) = ast.Negate offset (named e)
    named (bound.Arithmetic op offset e f) = ast.Arithmetic op offset (named e) (named f)
    named (bound.Comparison op offset e f) = ast.Comparison op offset (named e) (named f)
    named (bound.Between negated offset e low high) = ast.Between negated offset (named e) (named low) (named high)
    named (bound.In negated offset values e) = ast.In negated offset values (named e)
    named (bound.IsNull negated offset e) = ast.IsNull negated offset (named e)
    named (bound.Not offset e) = ast.Not offset (named e)
    named (bound.And offset es) = ast.And offset (named_members es)
    named (bound.Or offset es) = ast.Or offset (named_members es)
    named (bound.Cast offset to e) = ast.Cast offset to (named e)
    named (bound.Case offset as_ o) = ast.Case offset (named_arms as_) (named_otherwise o)
    named (bound.CountStar offset) = ast.CountStar offset
    named (bound.Call f offset e) = ast.Call f offset (named e)

    -- the same of members, of arms and of an ELSE
    pub named_members : BoundExprs → ast.Exprs
    named_members bound.no_expr = ast.no_expr
    named_members (bound.one_expr e es) = ast.one_expr (named e) (named_members es)

    pub named_arms : BoundArms → ast.Arms
    named_arms bound.no_arm = ast.no_arm
    named_arms (bound.one_arm when result as_) = ast.one_arm (named when) (named result) (named_arms as_)

    pub named_otherwise : BoundOtherwise → ast.Otherwise
    named_otherwise bound.Nothing = ast.Nothing
    named_otherwise (bound.Value e) = ast.Value (named e)
