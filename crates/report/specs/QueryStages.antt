-- The stages of a query over the combinations that pass its movable conjuncts.
use Rattle.std.specs.Prelude.{Bool, true, false, List, [], ◌∷◌, map, option_to_list, Result, Ok, Err}
use Rattle.value.specs.Datum.{Row}
use Rattle.value.specs.Conditions.{truth_at}
use Rattle.value.specs.Orders.{is_true}
use Rattle.value.specs.declared.faults.Fault.{Fault}
use Rattle.value.specs.Names.{Name}
use Rattle.expr.specs.Bound.{BoundExpr}
use Rattle.eval.specs.Meaning.{Cells, Outcome, meaning, ◌>>=◌}
use Rattle.groups.specs.Stages.{Fate, gives, gives_if, stage}
use Rattle.memory.specs.Results.{first_then}
use Rattle.groups.specs.Members.{Member, member_on}
use Rattle.groups.specs.GroupRow.{GroupRow, group_cells, group_rows}
use Rattle.expr.specs.BoundQuery.{BoundItem, BoundQuery}
use Rattle.expr.specs.Conjuncts.{fragile_conjuncts}
use Rattle.tuples.specs.Combinations.{Combination, joined_cells}
pub use Rattle.row_marks.specs.Calls.{item_aggregates, query_aggregates}

-- ---- conditions and items on one row or group

-- the outcome is true; null and false are not
abbrev pub truth_in : Outcome → Result Bool Fault
truth_in (Ok d) = Ok (is_true (truth_at d))
truth_in (Err fault) = Err fault

abbrev pub unless_dropped : Result Bool Fault → Result Bool Fault → Result Bool Fault
unless_dropped (Ok true) more = more
unless_dropped (Ok false) more = Ok false
unless_dropped (Err fault) more = Err fault

-- the conditions keep it: the first that is not true drops it, the first that faults gives its fault
abbrev pub keeps : Cells → Name → List BoundExpr → Result Bool Fault
keeps cells role [] = Ok true
keeps cells role (e ∷ es) = unless_dropped (truth_in (meaning cells role e)) (keeps cells role es)

-- the values of items, or the first fault from left to right
abbrev pub values_of : Cells → Name → List BoundItem → Result Row Fault
values_of cells role [] = Ok []
values_of cells role (i ∷ more) = first_then (meaning cells role i.value) (values_of cells role more)

-- ---- groups

-- the row of a group as the cells of its columns and aggregates
abbrev pub cells_of_group : BoundQuery → GroupRow → Cells
cells_of_group q g = group_cells q.group_by (query_aggregates q) g

module _ (role : Name) (q : BoundQuery) where
  -- ---- the stages

  -- stage WHERE: the combinations that the fragile conjuncts keep
  abbrev pub where_fate : Combination → Fate Combination
  where_fate c = gives_if c (keeps (joined_cells c) role (fragile_conjuncts q))

  abbrev pub where_stage : List Combination → Result (List Combination) Fault
  where_stage these = stage (map where_fate these)

  -- stage items: the items of each combination
  abbrev pub items_fate : Combination → Fate Row
  items_fate c = gives (values_of (joined_cells c) role q.items)

  abbrev pub items_stage : List Combination → Result (List Row) Fault
  items_stage these = stage (map items_fate these)

  -- stage arguments: the group key and aggregate arguments of each combination
  abbrev pub arguments_fate : Combination → Fate Member
  arguments_fate c = gives (member_on (joined_cells c) role q.group_by (query_aggregates q))

  abbrev pub arguments_stage : List Combination → Result (List Member) Fault
  arguments_stage these = stage (map arguments_fate these)

  -- stage sums: the row of each group
  abbrev pub sums_stage : List Member → Result (List GroupRow) Fault
  sums_stage members = group_rows q.group_by (query_aggregates q) members

  -- stage HAVING: the groups on which HAVING is true or absent
  abbrev pub having_fate : GroupRow → Fate GroupRow
  having_fate g = gives_if g (keeps (cells_of_group q g) role (option_to_list q.having))

  abbrev pub having_stage : List GroupRow → Result (List GroupRow) Fault
  having_stage groups = stage (map having_fate groups)

  -- stage group items: the items of each group
  abbrev pub group_items_fate : GroupRow → Fate Row
  group_items_fate g = gives (values_of (cells_of_group q g) role q.items)

  abbrev pub group_items_stage : List GroupRow → Result (List Row) Fault
  group_items_stage groups = stage (map group_items_fate groups)

  -- ---- the rows of groups

  abbrev pub rows_of_group_rows : List GroupRow → Result (List Row) Fault
  rows_of_group_rows groups = having_stage groups >>= group_items_stage

  abbrev pub rows_of_members : List Member → Result (List Row) Fault
  rows_of_members members = sums_stage members >>= rows_of_group_rows

  abbrev pub rows_of_groups : List Combination → Result (List Row) Fault
  rows_of_groups these = arguments_stage these >>= rows_of_members
