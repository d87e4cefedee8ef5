-- The row that HAVING and the items of a grouped query are evaluated on.
use Rattle.std.specs.Prelude.{ℕ, nat_eq, List, [], ◌∷◌, map, Result, Ok, Err, if◌then◌else◌}
use Rattle.value.specs.Datum.{Datum, null, Row}
use Rattle.value.specs.declared.faults.Fault.{Fault}
use Rattle.expr.specs.declared.bound.ColumnId.{ColumnId}
use Rattle.expr.specs.Bound.{is_column}
use Rattle.expr.specs.Aggregates.{AggregateCall}
use Rattle.eval.specs.Meaning.{Cells}
use Rattle.groups.specs.Stages.{gives, stage}
use Rattle.groups.specs.Members.{Member}
use Rattle.groups.specs.Groups.{Group, groups_of}
use Rattle.groups.specs.Aggregates.{totals}

-- the key of a group, and the values of its aggregates in written order
pub record GroupRow : Type 0 where
  pub key : Row
  pub totals : Row

abbrev pub with_totals : Row → Result Row Fault → Result GroupRow Fault
with_totals key (Ok totals) = Ok (record { key = key; totals = totals })
with_totals key (Err fault) = Err fault

abbrev pub group_row : List AggregateCall → Group → Result GroupRow Fault
group_row calls g = with_totals g.key (totals calls 0 g.members)

-- stage sums: the row of each group, or the least fault
abbrev pub group_rows : List ColumnId → List AggregateCall → List Member → Result (List GroupRow) Fault
group_rows columns calls members = stage (map (λ g. gives (group_row calls g)) (groups_of columns members))

-- ---- its cells and aggregates

-- the value of a GROUP BY column; outside aggregates an admitted query names no other (query_laws::law_admitted), so that
-- null never replaces one
abbrev pub key_cell : List ColumnId → Row → ColumnId → Datum
key_cell [] key id = null
key_cell (column ∷ columns) [] id = null
key_cell (column ∷ columns) (d ∷ ds) id = if is_column column id then d else key_cell columns ds id

-- the value of the aggregate whose name is at an offset
abbrev pub total_at : List AggregateCall → Row → ℕ → Datum
total_at [] totals offset = null
total_at (c ∷ calls) [] offset = null
total_at (c ∷ calls) (d ∷ ds) offset = if nat_eq c.offset offset then d else total_at calls ds offset

abbrev pub group_cells : List ColumnId → List AggregateCall → GroupRow → Cells
group_cells columns calls g = record { column = key_cell columns g.key; aggregate = total_at calls g.totals }
