use Rattle.std.proofs.Common.{◌≡◌, map}
use Rattle.std.specs.List.{range_with_len}
use Rattle.stats.specs.Marked.{AreStatsOf, marked}
use Rattle.stats.proofs.Seen.{counted}
use Rattle.stats.proofs.marked_stats.MarkedStats.statistics.Given as goal

-- the statistics of the columns so far
abbrev pub invariant-loop-column : goal.invariant-loop-column
invariant-loop-column g l = record {
  all : l.all ≡ map (counted l.columns (marked l.fn.self.marks l.table.rows)) (range_with_len 0 l.column);
  marks : l.self.marks ≡ l.fn.self.marks;
  stats : AreStatsOf l.table.rows l.self;
}
