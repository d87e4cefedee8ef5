use Rattle.std.proofs.Common.{◌≡◌, ◌+◌, drop}
use Rattle.plan_texts.specs.Reading.{numbered_from, number_of}
use Rattle.plan_texts.proofs.names.number_of.Given as goal

abbrev pub invariant-loop-index : goal.invariant-loop-index
invariant-loop-index g l = numbered_from (l.index + 1) (drop l.index l.names) l.name ≡ number_of l.names l.name
