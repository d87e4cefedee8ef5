use denote.Text.{Utf8}
use denote.Shadow.{shadow}
use Rattle.accept_refused.proofs.statements.refuse_each.Given as goal

-- what is left to apply is text
abbrev pub invariant-loop-part : goal.invariant-loop-part
invariant-loop-part g l =
    (goal.iterator-loop-part g).can_next l.part-iterator ×
    (goal.iterator-loop-part g).is_finite l.part-iterator ×
    shadow (Utf8 l.after)
