use Rattle.std.proofs.Common.{◌≡◌, ◌≤◌, All, map, take}
use Rattle.stats.specs.Card.{selection}
use Rattle.stats.specs.Factors.{million}
use Rattle.stats.specs.View.{selection_of, stats_of}
use Rattle.stats.proofs.selection.selections.Given as goal

abbrev pub invariant-loop-condition : goal.invariant-loop-condition
invariant-loop-condition g l = record {
  known : map (λ s. selection_of s) l.selections ≡ map (selection (map (λ s. stats_of s.now) l.statistics)) (take l.condition-index l.conditions);
  parts : All (λ s. s.factor ≤ million) l.selections;
}
