-- The groups of the combinations so far, with the least fault.
use Rattle.std.specs.Prelude.{◌≡◌, List, Some, Result, Ok, Err}
use Rattle.memory.specs.Results.{and_then}
use Rattle.bags.specs.Least.{lesser}
use Rattle.value.specs.declared.faults.Fault.{Fault}
use Rattle.expr.specs.Aggregates.{AggregateCall}
use Rattle.groups.specs.Stages.{fault_cmp, unless_fault}
use Rattle.groups.specs.declared.groups.Groups.{Groups}
use Rattle.groups.specs.Members.{Member}
use Rattle.groups.specs.GroupRow.{GroupRow}
use Rattle.groups.specs.Running.{RunningGroup, finished_rows, put_running}
use Rattle.groups.specs.View.{running_in}

abbrev pub totals_in : {A : Type 0} → Groups A → List RunningGroup
totals_in groups = running_in groups.by_key.entries

-- the member of one more combination, or its fault, is taken in: after a fault the totals are of no account
abbrev pub Takes : {A : Type 0} → List AggregateCall → Result Member Fault → Groups A → Groups A → Type 0
Takes calls (Ok m) old new = (totals_in new ≡ put_running calls m (totals_in old)) × (new.stage.least ≡ old.stage.least)
Takes calls (Err f) old new = new.stage.least ≡ lesser fault_cmp old.stage.least (Some f)

-- the rows of the groups whose members are all in, where no argument faulted
abbrev pub rows_of : {A : Type 0} → List AggregateCall → Groups A → Result (List GroupRow) Fault
rows_of calls groups = and_then (unless_fault groups.stage.least (totals_in groups)) (finished_rows calls)
