use Rattle.std.proofs.Common.{◌≡◌, ◌≤◌, ◌^◌, drop, map}
use Rattle.stats.specs.View.{selection_of, selections_of, stats_of}
use Rattle.left_tails.specs.Tails as spec
use Rattle.left_tails.proofs.Reduced.{reduced_by}
use Rattle.left_tails.proofs.sizes.size_with_left.Given as goal

abbrev pub invariant-loop-condition : goal.invariant-loop-condition
invariant-loop-condition g l = record {
  rest : reduced_by (spec.is_completed l.entry) l.rows (map (λ s. selection_of s) (drop l.condition-index l.conditions)) ≡ spec.size_with_left (map (λ s. stats_of s.now) l.statistics) (selections_of l.conditions) l.v l.entry l.on;
  most : l.rows ≤ 2 ^ 40;
}
