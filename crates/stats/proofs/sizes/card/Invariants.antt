use Rattle.std.proofs.Common.{◌≡◌, ◌≤◌, ◌^◌, drop, map}
use Rattle.stats.specs.Card.{card}
use Rattle.stats.specs.View.{members, selection_of, selections_of, stats_of}
use Rattle.stats.proofs.Estimates.{reduced_by}
use Rattle.stats.proofs.sizes.card.Given as goal

abbrev pub invariant-loop-condition : goal.invariant-loop-condition
invariant-loop-condition g l = record {
  rest : reduced_by (members l.entries) l.rows (map (λ s. selection_of s) (drop l.condition-index l.conditions)) ≡ card (map (λ s. stats_of s.now) l.statistics) (selections_of l.conditions) (members l.entries);
  least : 1 ≤ l.rows;
  most : l.rows ≤ 2 ^ 40;
}
