-- What holds of a query that is admitted: of the columns that it names, and of its aggregates.
use Rattle.std.specs.Prelude.{◌≡◌, ℕ, true, false, List, [], Some, None, slice_get, option_to_list, Ok}
use Rattle.std.specs.List.{All, list_any}
use Rattle.value.specs.Columns.{Column}
use Rattle.value.specs.Names.{Name}
use Rattle.expr.specs.declared.bound.ColumnId.{ColumnId}
use Rattle.expr.specs.Aggregates.{AggregateCall, aggregates}
use Rattle.expr.specs.Bound.{BoundExpr, is_column}
use Rattle.expr.specs.BoundQuery.{BoundQuery}
use Rattle.expr.specs.NamedColumns.{named_columns}
use Rattle.scope.specs.Entry.{Entry}
use Rattle.catalog_laws.specs.Catalog.{Catalog}
use Rattle.analysis.specs.Access.{granted, select_on}
use Rattle.analysis.specs.Needed.{select_any}
use Rattle.analysis.specs.Resolved.{Bound}
use Rattle.analysis.specs.Analysis.{admitted}
use Rattle.query_laws.specs.Outside.{outside_aggregates}

-- ---- columns

-- a column of the table of an entry, on which SELECT is granted to the role
pub record IsGranted (cat : Catalog) (role : Name) (entries : List Entry) (id : ColumnId) : Type 0 where
  pub entry : Entry
  pub column : Column
  pub entry_is : slice_get entries id.entry ≡ Some entry
  pub column_is : slice_get entry.table.columns id.column ≡ Some column
  pub is_granted : granted cat role (select_on entry.table column.name) ≡ true

-- each column that an admitted query names is there, and granted
abbrev pub NamedAreGranted : Type 0
NamedAreGranted = (cat : Catalog) (role : Name) (text : List ℕ) (b : Bound) → admitted cat role text ≡ Ok b → All (IsGranted cat role b.entries) (named_columns b.query)

-- so is some part of the table of each entry
abbrev pub TablesAreGranted : Type 0
TablesAreGranted = (cat : Catalog) (role : Name) (text : List ℕ) (b : Bound) → admitted cat role text ≡ Ok b → All (λ e. granted cat role (select_any e.table) ≡ true) b.entries

-- ---- aggregates

-- the expression has no aggregate
abbrev pub IsPlain : BoundExpr → Type 0
IsPlain e = aggregates e ≡ []

-- the argument has none
abbrev pub HasPlainArgument : AggregateCall → Type 0
HasPlainArgument call = All IsPlain (option_to_list call.argument)

-- outside aggregates it names columns of GROUP BY alone, and no aggregate is in another
pub record IsOfGroups (group_by : List ColumnId) (e : BoundExpr) : Type 0 where
  pub keys : All (λ id. list_any (is_column id) group_by ≡ true) (outside_aggregates e)
  pub arguments : All HasPlainArgument (aggregates e)

-- an item or HAVING: of groups, or without aggregates
abbrev pub IsOutput : BoundQuery → BoundExpr → Type 0
IsOutput q e = (q.is_grouped ≡ true → IsOfGroups q.group_by e) × (q.is_grouped ≡ false → IsPlain e)

pub record IsPlaced (q : BoundQuery) : Type 0 where
  pub ons : All (λ on. All IsPlain (option_to_list on)) q.ons
  pub filter : All IsPlain (option_to_list q.filter)
  pub items : All (λ i. IsOutput q i.value) q.items
  pub having : All (IsOutput q) (option_to_list q.having)
  -- a query that is not grouped has no GROUP BY and no HAVING
  pub ungrouped : q.is_grouped ≡ false → (q.group_by ≡ []) × (q.having ≡ None)

-- the aggregates of an admitted query are where they may be
abbrev pub AggregatesArePlaced : Type 0
AggregatesArePlaced = (cat : Catalog) (role : Name) (text : List ℕ) (b : Bound) → admitted cat role text ≡ Ok b → IsPlaced b.query
