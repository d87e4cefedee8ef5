-- The privileges that a query needs.
use Rattle.std.specs.Prelude.{ℕ, nat_eq, ◌+◌, Bool, false, List, [], ◌∷◌, ◌++◌, map, Option, Some, None, option_map, option_and_then, slice_get, if◌then◌else◌}
use Rattle.std.specs.List.{filter_map, flat_map, list_any}
use Rattle.row_objects.specs.Objects.{Table}
use Rattle.expr.specs.Bound.{BoundExpr}
use Rattle.expr.specs.Columns.{columns}
use Rattle.access.specs.Access.{RequiredPrivilege, select_on}
use Rattle.scope.specs.Entry.{Entry}
use Rattle.expr.specs.BoundQuery.{BoundItem, BoundQuery}
use Rattle.access.specs.declared.mentions.Mention.{Mention}
use Rattle.access.specs.declared.mentions.Mention.TheVariants as mention

-- ---- mentions: entries and columns, in written order

abbrev pub in_expr : BoundExpr → List Mention
in_expr e = map mention.Column (columns e)

abbrev pub in_item : BoundItem → List Mention
in_item i = in_expr i.value

abbrev pub in_condition : Option BoundExpr → List Mention
in_condition None = []
in_condition (Some e) = in_expr e

-- each entry, and the columns that its ON names
abbrev pub in_from : ℕ → List (Option BoundExpr) → List Mention
in_from entry [] = []
in_from entry (on ∷ more) = (mention.From entry ∷ in_condition on) ++ in_from (entry + 1) more

-- items, FROM, WHERE, GROUP BY and HAVING
abbrev pub mentions : BoundQuery → List Mention
mentions q = (((flat_map in_item q.items ++ in_from 0 q.ons) ++ in_condition q.filter) ++ map mention.Column q.group_by) ++ in_condition q.having

-- ---- required privileges

abbrev pub is_column_of : ℕ → Mention → Bool
is_column_of entry (mention.From k) = false
is_column_of entry (mention.Column id) = nat_eq id.entry entry

-- SELECT on any part of a table
abbrev pub select_any : Table → RequiredPrivilege
select_any t = record { table = t; column = None }

abbrev pub on_column : ℕ → Entry → Option RequiredPrivilege
on_column column e = option_map (λ c. select_on e.table c.name) (slice_get e.table.columns column)

abbrev pub on_entry : Entry → RequiredPrivilege
on_entry e = select_any e.table

-- of a column SELECT on it; of an entry of which no column is named SELECT on any part of its table; a column that is not
-- there would need nothing, but no admitted query names one (query_laws::law_admitted)
abbrev pub required_by : List Entry → List Mention → Mention → Option RequiredPrivilege
required_by entries mentions (mention.From entry) = if list_any (is_column_of entry) mentions then None else option_map on_entry (slice_get entries entry)
required_by entries mentions (mention.Column id) = option_and_then (on_column id.column) (slice_get entries id.entry)

abbrev pub required : List Entry → List Mention → List RequiredPrivilege
required entries mentions = filter_map (required_by entries mentions) mentions

-- the privileges that the query needs, in written order
abbrev pub needed : List Entry → BoundQuery → List RequiredPrivilege
needed entries q = required entries (mentions q)
