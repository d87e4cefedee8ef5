use Rattle.std.proofs.Common.{◌≡◌, ◌++◌, drop}
use Rattle.scope.specs.View.{entries_of}
use Rattle.engine.specs.Settings.{indexed}
use Rattle.engine.proofs.setting.indexed.Given as goal

abbrev pub invariant-loop-entry : goal.invariant-loop-entry
invariant-loop-entry g l = l.indexed ++ indexed (entries_of (drop l.entry-index l.entries)) ≡ indexed (entries_of l.entries)
