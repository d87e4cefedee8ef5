-- The values of the aggregates of a group, by the rows of its class.
use Rattle.std.specs.Prelude.{◌≡◌, List, length, filter, Option, None, Ok, Err}
use Rattle.std.specs.List.{All, AllPairs, AllZip, filter_map}
use Rattle.value.specs.Datum.{Datum, Row}
use Rattle.value.specs.Names.{Name}
use Rattle.expr.specs.declared.bound.ColumnId.{ColumnId}
use Rattle.expr.specs.Bound.{BoundExpr}
use Rattle.expr.specs.Aggregates.{AggregateCall}
use Rattle.eval.specs.Meaning.{Cells, Outcome}
use Rattle.groups.specs.Aggregates.{aggregate_of, not_null}
use Rattle.groups.specs.Groups.{same_key}
use Rattle.groups.specs.GroupRow.{GroupRow, group_cells, group_rows}
use Rattle.groups.specs.Members.{Member, argument, key_on, member_on}

-- the rows with this key in the columns of GROUP BY; without GROUP BY all rows
abbrev pub class_of : List ColumnId → Row → List Cells → List Cells
class_of columns key rows = filter (λ cells. same_key (key_on cells columns) key) rows

-- a value that is not null
abbrev pub value_in : Outcome → Option Datum
value_in (Ok d) = not_null d
value_in (Err fault) = None

-- the values of an argument on rows, nulls left out
abbrev pub argument_values : Name → Option BoundExpr → List Cells → List Datum
argument_values role e rows = filter_map (λ cells. value_in (argument cells role e)) rows

-- no two aggregates have one offset
abbrev pub HaveOffsets : List AggregateCall → Type 0
HaveOffsets calls = AllPairs (λ a b. a.offset ≡ b.offset → ⊥) calls

-- each row is a member
abbrev pub AreMembers : Name → List ColumnId → List AggregateCall → List Cells → List Member → Type 0
AreMembers role columns calls rows members = AllZip (λ cells m. member_on cells role columns calls ≡ Ok m) rows members

-- on the row of a group the value of each aggregate is that of its argument's values on the rows of the class
abbrev pub AggregatesOfClasses : Type 0
AggregatesOfClasses = (role : Name) (columns : List ColumnId) (calls : List AggregateCall) (rows : List Cells) (members : List Member) (groups : List GroupRow) →
    HaveOffsets calls → AreMembers role columns calls rows members → group_rows columns calls members ≡ Ok groups →
    All (λ g. All (λ call. aggregate_of call.aggregate call.offset (argument_values role call.argument (class_of columns g.key rows)) ≡ Ok ((group_cells columns calls g).aggregate call.offset)) calls) groups

-- count(*) has a value on each row
abbrev pub CountsEachRow : Type 0
CountsEachRow = (role : Name) (rows : List Cells) → length (argument_values role None rows) ≡ length rows
