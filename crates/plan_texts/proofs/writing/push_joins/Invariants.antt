use Rattle.std.proofs.Common.{◌≡◌, ◌++◌, drop, map}
use Rattle.plan_texts.specs.PlanTexts.{join_text, text_of_lines}
use Rattle.plan_texts.specs.View.{plan_entry_of}
use Rattle.plan_texts.proofs.writing.push_joins.Given as goal

abbrev pub invariant-loop-join : goal.invariant-loop-join
invariant-loop-join g l = l.out.items ++ text_of_lines (map (join_text (map plan_entry_of l.entries)) (drop l.join-index l.joins)) ≡ l.fn.out.items ++ text_of_lines (map (join_text (map plan_entry_of l.entries)) l.joins)
