use Rattle.std.proofs.Common.{◌≡◌, ◌++◌, drop, map}
use Rattle.algebra.specs.View.{step_of}
use Rattle.plan_texts.specs.PlanTexts.{step_text, text_of_lines}
use Rattle.plan_texts.proofs.writing.push_trail.Given as goal

abbrev pub invariant-loop-step : goal.invariant-loop-step
invariant-loop-step g l = l.out.items ++ text_of_lines (map step_text (map step_of (drop l.step-index l.trail))) ≡ l.fn.out.items ++ text_of_lines (map step_text (map step_of l.trail))
