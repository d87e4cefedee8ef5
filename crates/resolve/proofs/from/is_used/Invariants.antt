use Rattle.std.proofs.Common.{◌≡◌, drop, map}
use Rattle.resolve.specs.Entries.{is_used}
use Rattle.scope.specs.View.{entry_of}
use Rattle.resolve.proofs.from.is_used.Given as goal

abbrev pub invariant-loop-entry : goal.invariant-loop-entry
invariant-loop-entry g l = is_used l.alias (map (λ e. entry_of e) (drop l.entry-index l.entries)) ≡ is_used l.alias (map (λ e. entry_of e) l.entries)
