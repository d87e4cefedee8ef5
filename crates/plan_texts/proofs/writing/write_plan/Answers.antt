use Rattle.std.proofs.Common.{◌++◌, ap, ◌∙◌}
use Rattle.row_ast.specs.View.{expr_of}
use Rattle.algebra.specs.View.{step_of}
use Rattle.plan_texts.specs.PlanTexts.{filter_lines, on_text, step_text, text_of_lines}
use Rattle.std.specs.Prelude.{map}
use Rattle.plan_texts.specs.View.{on_of, plan_entry_of, plan_of}
use Rattle.plan_texts.proofs.Written.{plan_written}
use Rattle.plan_texts.proofs.writing.write_plan.Goals as goal

pub returns : goal.returns
returns g c =
    let entries = map plan_entry_of c.args.entries.now in
    plan_written entries (plan_of c.args.plan.now) c.new-out.result.items c.push_str.new.out.items c.push_cost.new.out.items c.push_str-2.new.out.items c.push_filters.new.out.items c.push_ons.new.out.items c.push_code.new.out.items c.push_sort.new.out.items
    c.push_str-3.new.out.items c.push_trail.new.out.items c.new-out.ensures.items c.in_ok-push_str.ensures c.in_ok-push_cost.ensures c.in_ok-push_str-2.ensures (c.in_ok-push_filters.ensures ∙ ap (λ es. c.push_str-2.new.out.items ++ text_of_lines (filter_lines 1 (map expr_of es))) c.as_slice.ensures)
    (c.in_ok-push_ons.ensures ∙ ap (λ os. c.push_filters.new.out.items ++ text_of_lines (map (on_text entries) (map on_of os))) c.as_slice-2.ensures) c.in_ok-push_code.ensures c.in_ok-push_sort.ensures
    c.in_ok-push_str-3.ensures (c.in_ok-push_trail.ensures ∙ ap (λ steps. c.push_str-3.new.out.items ++ text_of_lines (map step_text (map step_of steps))) c.as_slice-3.ensures)
