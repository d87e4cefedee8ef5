use Rattle.plan_texts.proofs.Cuts.{Passed}
use Rattle.plan_texts.proofs.lines.next_line.Given as goal

abbrev pub invariant-loop-index : goal.invariant-loop-index
invariant-loop-index l = Passed l.text l.index l.quoted
