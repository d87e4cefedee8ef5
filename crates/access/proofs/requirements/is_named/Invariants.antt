use Rattle.std.proofs.Common.{◌≡◌, drop}
use Rattle.std.specs.List.{list_any}
use Rattle.access.specs.Needed.{is_column_of}
use Rattle.access.proofs.requirements.is_named.Given as goal

abbrev pub invariant-loop-mention : goal.invariant-loop-mention
invariant-loop-mention l = list_any (is_column_of l.entry) (drop l.mention-index l.mentions) ≡ list_any (is_column_of l.entry) l.mentions
