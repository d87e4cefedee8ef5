use Rattle.std.proofs.Common.{◌≡◌, ◌++◌, drop, map}
use Rattle.std.specs.List.{filter_map}
use Rattle.scope.specs.View.{entry_of}
use Rattle.access.specs.Needed.{required_by, required}
use Rattle.access.specs.View.{privilege_of}
use Rattle.access.proofs.requirements.required.Given as goal

abbrev pub invariant-loop-mention : goal.invariant-loop-mention
invariant-loop-mention g l = map (λ p. privilege_of p) l.required ++ filter_map (required_by (map (λ e. entry_of e) l.entries) l.mentions) (drop l.mention-index l.mentions) ≡ required (map (λ e. entry_of e) l.entries) l.mentions
