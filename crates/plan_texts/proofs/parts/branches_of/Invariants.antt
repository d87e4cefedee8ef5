use Rattle.std.proofs.Common.{◌≡◌, ◌++◌, drop}
use Rattle.plan_texts.specs.Reading.{branches_of}
use Rattle.plan_texts.proofs.parts.branches_of.Given as goal

abbrev pub invariant-loop-byte : goal.invariant-loop-byte
invariant-loop-byte g l = l.path ++ branches_of (drop l.byte-index l.bytes) ≡ branches_of l.bytes
