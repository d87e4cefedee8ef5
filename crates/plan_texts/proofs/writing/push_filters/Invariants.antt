use Rattle.std.proofs.Common.{◌≡◌, ◌+◌, ◌++◌, drop, map}
use Rattle.row_ast.specs.View.{expr_of}
use Rattle.plan_texts.specs.PlanTexts.{filter_lines, text_of_lines}
use Rattle.plan_texts.proofs.writing.push_filters.Given as goal

abbrev pub invariant-loop-index : goal.invariant-loop-index
invariant-loop-index g l = l.out.items ++ text_of_lines (filter_lines (l.index + 1) (map expr_of (drop l.index l.filters))) ≡ l.fn.out.items ++ text_of_lines (filter_lines 1 (map expr_of l.filters))
