use Rattle.std.proofs.Common.{◌≡◌, ℕ, ◌+◌, ◌++◌, List, length, Option, Some, None}
use denote.Ref.{Bor}
use Rattle.plan_texts.specs.Reading.{parts, further_parts}
use Rattle.plan_texts.specs.View.{texts_of}
use Rattle.plan_texts.proofs.parts.parts_of.Given as goal

abbrev pub invariant-loop-rest : goal.invariant-loop-rest
invariant-loop-rest g l = texts_of l.parts.items ++ further_parts l.rest ≡ parts l.line

-- the bytes that are left
abbrev left : Option (Bor (List ℕ)) → ℕ
left None = 0
left (Some text) = length text.now + 1

abbrev pub decreases-loop-rest : goal.decreases-loop-rest
decreases-loop-rest g l = left l.rest
