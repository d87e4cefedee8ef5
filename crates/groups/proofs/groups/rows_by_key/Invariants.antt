use Rattle.std.proofs.Common.{◌≡◌, map}
use Rattle.expr.specs.View.{aggregate_calls_of}
use Rattle.groups.specs.Stages.{gives, stage}
use Rattle.groups.proofs.Going.{going_on}
use Rattle.groups.specs.Running.{finished_row}
use Rattle.groups.specs.View.{group_row_of, running_in}
use Rattle.groups.proofs.groups.rows_by_key.Given as goal

abbrev pub invariant-loop-key : goal.invariant-loop-key
invariant-loop-key g l =
    going_on l.stage.least (map (λ r. group_row_of r) l.stage.given) (map (λ r. gives (finished_row (aggregate_calls_of l.calls) r)) (running_in l.key-iterator))
    ≡ stage (map (λ r. gives (finished_row (aggregate_calls_of l.calls) r)) (running_in l.fn.groups.entries))
