-- What is held of the combinations that come one after the other.
use Rattle.std.specs.Prelude.{◌≡◌, ℕ, true, false, List, map, Option, None, Result}
use Rattle.std.specs.List.{filter_map}
use Rattle.memory.specs.Gives.{Gives}
use Rattle.memory.specs.declared.failure.Failure.{Failure}
use Rattle.bags.specs.Least.{least}
use Rattle.value.specs.Datum.{Row}
use Rattle.value.specs.declared.faults.Fault.{Fault}
use Rattle.expr.specs.declared.bound.ColumnId.{ColumnId}
use Rattle.expr.specs.declared.query.OutputKey.{OutputKey}
use Rattle.expr.specs.Aggregates.{AggregateCall}
use Rattle.expr.specs.View.{aggregate_calls_of}
use Rattle.groups.specs.Stages.{Fate, fault_cmp, fault_in, given_in}
use Rattle.groups.specs.declared.groups.Groups.{Groups}
use Rattle.groups.specs.Groups.{groups_of}
use Rattle.groups.specs.Members.{Member}
use Rattle.groups.specs.Running.{running_groups}
use Rattle.groups.specs.Taking.{totals_in}
use Rattle.tuples.specs.Combinations.{Combination}
use Rattle.tuples.specs.View.{world_of}
use Rattle.tuples.specs.World.{World}
use Rattle.row_marks.specs.Marks.{AreMarksOf}
use Rattle.report.specs.declared.taken_rows.TakenRows.{TakenRows}
use Rattle.report.specs.declared.gathered.Gathered as gathered
use Rattle.report.specs.declared.gathered.Gathered.TheVariants as code
use Rattle.report.specs.declared.answering.Answering.{Answering}
use Rattle.answer_rows.specs.Growing.{only}
use Rattle.report.specs.Held.{held}
use Rattle.report.specs.QueryStages.{where_fate, items_fate, arguments_fate, query_aggregates}

-- ---- of the outcomes of a stage

abbrev pub least_fault : {Y : Type 0} → List (Fate Y) → Option Fault
least_fault fates = least fault_cmp (filter_map fault_in fates)

abbrev pub all_given : {Y : Type 0} → List (Fate Y) → List Y
all_given fates = filter_map given_in fates

-- ---- what is held of these outcomes

-- their rows, the first in order where the limit is small, and the least fault
pub record HoldsRows {A : Type 0} (keys : List OutputKey) (limit : Option ℕ) (s : TakenRows A) (fates : List (Fate Row)) : Type 0 where
  pub rows : s.rows ≡ only (held keys limit (all_given fates))
  pub fault : s.stage.least ≡ least_fault fates

-- the same, and the values of the next row, or their fault
pub record HasPushed {A : Type 0} (keys : List OutputKey) (limit : Option ℕ) (s : TakenRows A) (fates : List (Fate Row)) (outcome : Result (Unit {0}) (Failure Fault)) (due : Result Row Fault) : Type 0 where
  pub rows : s.rows.rows ≡ held keys limit (all_given fates)
  pub fault : s.stage.least ≡ least_fault fates
  pub next : Gives (λ _. s.rows.unfinished) outcome due

-- the groups of their members with the totals so far, while there is no fault, and the least fault
pub record HoldsGroups {A : Type 0} (columns : List ColumnId) (calls : List AggregateCall) (s : Groups A) (fates : List (Fate Member)) : Type 0 where
  pub totals : s.stage.least ≡ None → totals_in s ≡ running_groups calls (groups_of columns (all_given fates))
  pub fault : s.stage.least ≡ least_fault fates

-- ---- what is held of these combinations

-- stage WHERE keeps them: the groups, or the rows of the items
abbrev pub Gathers : {A : Type 0} → World → gathered.Gathered A → List Combination → Type 0
Gathers w (code.Groups groups) kept = (w.query.is_grouped ≡ true) × HoldsGroups w.query.group_by (query_aggregates w.query) groups (map (arguments_fate w.role w.query) kept)
Gathers w (code.Rows rows) kept = (w.query.is_grouped ≡ false) × HoldsRows w.query.order_by w.query.limit rows (map (items_fate w.role w.query) kept)

-- it was asked in this world, and has taken these: the least fault of stage WHERE, and what is held of those that it keeps
pub record Took {A : Type 0} (w : World) (s : Answering A) (these : List Combination) : Type 0 where
  pub world : world_of s.world.now ≡ w
  pub marks : AreMarksOf w s.marks
  pub calls : aggregate_calls_of s.calls ≡ query_aggregates w.query
  pub fault : s.filter.least ≡ least_fault (map (where_fate w.role w.query) these)
  pub kept : Gathers w s.gathered (all_given (map (where_fate w.role w.query) these))
