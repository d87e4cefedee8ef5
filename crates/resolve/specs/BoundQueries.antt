-- A query with each column found and all else kept.
use Rattle.std.specs.Prelude.{ℕ, ◌+◌, Bool, List, [], ◌∷◌, ◌++◌, length, Option, Some, None, Result, Ok, codes}
use Rattle.value.specs.Columns.{Column}
use Rattle.value.specs.declared.operators.Aggregate.{Aggregate}
use Rattle.value.specs.declared.operators.Aggregate.TheVariants as aggregate
use Rattle.row_ast.specs.Ast as ast
use Rattle.value.specs.Names.{Name}
use Rattle.expr.specs.declared.bound.ColumnId.{ColumnId}
use Rattle.expr.specs.Bound as bound
use Rattle.expr.specs.Bound.{BoundExpr}
use Rattle.scope.specs.declared.error.BindError.{BindError}
use Rattle.scope.specs.declared.lookup.Scope.{Scope}
use Rattle.scope.specs.Entry.{Entry}
use Rattle.memory.specs.Results.{and_then, first_then, on_each}
use Rattle.scope.specs.Lookup.{everywhere, find_column, on_scope}
use Rattle.expr.specs.BoundQuery.{BoundItem, BoundQuery}
use Rattle.scope.specs.BoundExprs.{bound_expr}
use Rattle.typing.specs.Clauses.{is_grouped}

-- ---- headings

abbrev pub aggregate_heading : Aggregate → Name
aggregate_heading aggregate.Count = codes "count"
aggregate_heading aggregate.Sum = codes "sum"
aggregate_heading aggregate.Min = codes "min"
aggregate_heading aggregate.Max = codes "max"

-- the heading of an item without alias
abbrev pub own_heading : ast.Expr → Name
own_heading (ast.Column c) = c.name
own_heading (ast.CountStar offset) = codes "count"
own_heading (ast.Call f offset e) = aggregate_heading f
own_heading _ = codes "?column?"

abbrev pub heading_or : Option Name → ast.Expr → Name
heading_or (Some alias) e = alias
heading_or None e = own_heading e

-- ---- items

abbrev pub bound_item : List Entry → Scope → ast.SelectItem → Result BoundItem BindError
bound_item entries scope i = and_then (bound_expr entries scope i.value) (λ e. Ok record { heading = heading_or i.alias i.value; value = e })

abbrev pub column_item : Column → ColumnId → BoundItem
column_item c id = record { heading = c.name; value = bound.Column id }

-- the columns of an entry, from an index on
abbrev pub column_items : (entry column : ℕ) → List Column → List BoundItem
column_items entry column [] = []
column_items entry column (c ∷ more) = column_item c (record { entry = entry; column = column }) ∷ column_items entry (column + 1) more

-- all columns of all entries, from an index on
abbrev pub every_item : ℕ → List Entry → List BoundItem
every_item entry [] = []
every_item entry (e ∷ more) = column_items entry 0 e.table.columns ++ every_item (entry + 1) more

abbrev pub bound_select : List Entry → Scope → ast.SelectList → Result (List BoundItem) BindError
bound_select entries scope (ast.All offset) = Ok (every_item 0 entries)
bound_select entries scope (ast.Items items) = on_each (bound_item entries scope) items

-- ---- conditions

abbrev pub bound_condition : List Entry → Scope → Option ast.Condition → Result (Option BoundExpr) BindError
bound_condition entries scope None = Ok None
bound_condition entries scope (Some c) = and_then (bound_expr entries scope c.predicate) (λ e. Ok (Some e))

-- the ON of each entry, from an index on
abbrev pub bound_ons : List Entry → ℕ → List Entry → Result (List (Option BoundExpr)) BindError
bound_ons entries number [] = Ok []
bound_ons entries number (e ∷ more) = first_then (bound_condition entries (on_scope number e) e.on) (bound_ons entries (number + 1) more)

-- ---- the query

-- the query of its parts, or the error of the first that has one
abbrev pub bound_parts : Bool → ℕ → Option ℕ → Result (List BoundItem) BindError → Result (List (Option BoundExpr)) BindError → Result (Option BoundExpr) BindError → Result (List ColumnId) BindError → Result (Option BoundExpr) BindError → Result BoundQuery BindError
bound_parts is_grouped left_count limit items ons filter group_by having =
    and_then items (λ items. and_then ons (λ ons. and_then filter (λ filter. and_then group_by (λ group_by. and_then having (λ having.
    Ok record { items = items; ons = ons; left_count = left_count; filter = filter; group_by = group_by; having = having; is_grouped = is_grouped; order_by = []; limit = limit })))))

abbrev pub bound_within : Scope → List Entry → ast.Query → Result BoundQuery BindError
bound_within scope entries q =
    bound_parts (is_grouped entries q) (length q.lefts) q.limit (bound_select entries scope q.select) (bound_ons entries 0 entries) (bound_condition entries scope q.filter) (on_each (find_column entries scope) q.group_by) (bound_condition entries scope q.having)

-- the query with its columns found among the entries, or the first name that does not resolve; its ORDER BY, which
-- names output columns, is bound after its checks
abbrev pub bound_query : List Entry → ast.Query → Result BoundQuery BindError
bound_query entries q = bound_within (everywhere entries) entries q
