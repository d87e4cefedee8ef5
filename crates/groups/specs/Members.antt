-- A row's group key and aggregate arguments.
use Rattle.std.specs.Prelude.{true, List, [], ◌∷◌, map, Option, Some, None, Result, Ok, Err}
use Rattle.value.specs.Datum.{bool, Row}
use Rattle.value.specs.declared.faults.Fault.{Fault}
use Rattle.value.specs.Names.{Name}
use Rattle.expr.specs.declared.bound.ColumnId.{ColumnId}
use Rattle.expr.specs.Bound.{BoundExpr}
use Rattle.expr.specs.Aggregates.{AggregateCall}
use Rattle.eval.specs.Meaning.{Cells, Outcome, meaning}
use Rattle.memory.specs.Results.{first_then, on_each}

-- the values of the GROUP BY columns, and those of the arguments of all aggregates, in written order
pub record Member : Type 0 where
  pub key : Row
  pub arguments : Row

module _ (cells : Cells) (role : Name) where
  -- count(*) counts a value that is never null
  abbrev pub argument : Option BoundExpr → Outcome
  argument None = Ok (bool true)
  argument (Some e) = meaning cells role e

  -- the arguments of the aggregates, or the first fault
  abbrev pub arguments : List AggregateCall → Result Row Fault
  arguments [] = Ok []
  arguments (c ∷ calls) = first_then (argument c.argument) (arguments calls)

  -- the outcome of each argument
  abbrev pub argument_outcomes : List AggregateCall → List Outcome
  argument_outcomes calls = map (λ c. argument c.argument) calls

-- the values of all outcomes, or the first fault
abbrev pub all_of : List Outcome → Result Row Fault
all_of outcomes = on_each (λ o. o) outcomes

abbrev pub key_on : Cells → List ColumnId → Row
key_on cells columns = map (λ id. cells.column id) columns

abbrev pub with_key : Row → Result Row Fault → Result Member Fault
with_key key (Ok arguments) = Ok (record { key = key; arguments = arguments })
with_key key (Err fault) = Err fault

abbrev pub member_on : Cells → Name → List ColumnId → List AggregateCall → Result Member Fault
member_on cells role columns calls = with_key (key_on cells columns) (arguments cells role calls)
