use Rattle.std.proofs.Common.{◌≡◌, ◌++◌, drop, map}
use Rattle.plan_texts.specs.PlanTexts.{on_text, text_of_lines}
use Rattle.plan_texts.specs.View.{on_of, plan_entry_of}
use Rattle.plan_texts.proofs.writing.push_ons.Given as goal

abbrev pub invariant-loop-on : goal.invariant-loop-on
invariant-loop-on g l = l.out.items ++ text_of_lines (map (on_text (map plan_entry_of l.entries)) (map on_of (drop l.on-index l.ons))) ≡ l.fn.out.items ++ text_of_lines (map (on_text (map plan_entry_of l.entries)) (map on_of l.ons))
