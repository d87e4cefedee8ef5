use Rattle.std.proofs.Common.{◌≡◌, ◌++◌, drop, map}
use Rattle.stats.specs.View.{stats_of}
use Rattle.engine.proofs.preparing.each_of.Given as goal

abbrev pub invariant-loop-one : goal.invariant-loop-one
invariant-loop-one g l = map (λ s. stats_of s.now) l.each.items ++ map (λ s. stats_of s) (drop l.one-index l.statistics) ≡ map (λ s. stats_of s) l.statistics
