-- The columns that their names resolve to, and the laws of named conditions.
use Rattle.std.specs.Prelude.{◌≡◌, ◌<◌, false, List, length, map, Some, Ok}
use Rattle.std.specs.List.{All, IsDistinct, slice_get}
use Rattle.std.specs.Str.{bytes_eq}
use Rattle.expr.specs.Bound.{BoundExpr}
use Rattle.expr.specs.Columns.{columns}
use Rattle.expr.specs.declared.bound.ColumnId.{ColumnId}
use Rattle.row_objects.specs.ColumnNames.{has_name_twice}
use Rattle.scope.specs.Entry.{Entry}
use Rattle.scope.specs.Lookup.{everywhere, find_column}
use Rattle.scope.specs.BoundExprs.{bound_expr}
use Rattle.bound_plans.specs.Named.{name_of, named}

module _ (entries : List Entry) where
  -- the name of the column resolves to it
  abbrev pub IsFound : ColumnId → Type 0
  IsFound id = find_column entries (everywhere entries) (name_of entries id) ≡ Ok id

  -- each column of the condition is found by its name
  abbrev pub AreFound : BoundExpr → Type 0
  AreFound b = All IsFound (columns b)

  -- a column of the table of an entry
  pub record IsColumn (id : ColumnId) : Type 0 where
    pub entry : Entry
    pub there : slice_get entries id.entry ≡ Some entry
    pub within : id.column < length entry.table.columns

  -- no two entries have one alias, and no two columns of a table one name
  pub record Unmistakable : Type 0 where
    pub aliases : IsDistinct bytes_eq (map (λ e. e.alias) entries)
    pub columns : All (λ e. has_name_twice e.table.columns ≡ false) entries

-- a named condition is bound as the condition
abbrev pub NamesBindBack : Type 0
NamesBindBack = (entries : List Entry) (b : BoundExpr) → AreFound entries b → bound_expr entries (everywhere entries) (named entries b) ≡ Ok b

-- where nothing is mistakable, each column of a condition is found by its name
abbrev pub ColumnsAreFound : Type 0
ColumnsAreFound = (entries : List Entry) (b : BoundExpr) → Unmistakable entries → All (IsColumn entries) (columns b) → AreFound entries b
