use Rattle.std.proofs.Common.{◌≡◌, map}
use Rattle.std.specs.List.{range_with_len}
use Rattle.trailcheck.specs.View.{setting_of}
use Rattle.joindp.specs.Following.{accesses}
use Rattle.joindp.proofs.searching.all_accesses.Given as goal

abbrev pub invariant-loop-entry : goal.invariant-loop-entry
invariant-loop-entry g l = l.lists ≡ map (accesses (setting_of l.problem.setting.now)) (range_with_len 0 l.entry)
