use Rattle.std.proofs.Common.{◌≡◌, ◌≤◌, ◌^◌, map}
use Rattle.stats.specs.Card.{all_rows}
use Rattle.stats.specs.View.{members, stats_of}
use Rattle.stats.proofs.Estimates.{rows_from}
use Rattle.stats.proofs.sizes.all_rows.Given as goal

abbrev pub invariant-loop-entry : goal.invariant-loop-entry
invariant-loop-entry g l = record {
  rest : rows_from (map (λ s. stats_of s.now) l.statistics) (members l.entries) l.rows l.entry ≡ all_rows (map (λ s. stats_of s.now) l.statistics) (members l.entries);
  least : 1 ≤ l.rows;
  most : l.rows ≤ 2 ^ 40;
}
