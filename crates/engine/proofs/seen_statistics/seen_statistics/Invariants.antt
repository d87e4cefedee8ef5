use Rattle.std.proofs.Common.{◌≡◌, ◌++◌, drop, map}
use Rattle.stats.specs.View.{stats_of}
use Rattle.scope.specs.View.{entry_of}
use Rattle.resolve.specs.View.{bound_of}
use Rattle.store.specs.Database.{rows_of}
use Rattle.engine.specs.Answer.{seen}
use Rattle.engine.specs.SeenStatistics as spec
use Rattle.engine.specs.SeenTables.{AreSeenIn}
use Rattle.engine.proofs.seen_statistics.seen_statistics.Given as goal

-- those so far, and those of the entries that are left
abbrev pub invariant-loop-number : goal.invariant-loop-number
invariant-loop-number g l = record {
  all : map (λ s. stats_of s) l.all ++ spec.entry_statistics (bound_of l.bound).query l.number (map (λ e. entry_of e) (drop l.number l.bound.entries)) (seen l.store.catalog (rows_of l.store) l.role (map (λ e. entry_of e) (drop l.number l.bound.entries)))
      ≡ spec.seen_statistics l.store.catalog (rows_of l.store) l.role (bound_of l.bound);
  known : AreSeenIn l.store l.seen;
}
