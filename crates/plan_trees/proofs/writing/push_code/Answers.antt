use Rattle.std.proofs.Common.{◌++◌, ◌∙◌, codes, reverse, sym, ap}
use Rattle.std.proofs.lemmas.Result.{on_ok_weaker}
use Rattle.plan_texts.specs.View.{plan_code_of}
use Rattle.plan_trees.specs.PlanTrees.{code_text, indentation, node_end, node_start, steps_text}
use Rattle.plan_trees.specs.View.{source_of}
use Rattle.plan_trees.proofs.Written.{five}
use Rattle.plan_trees.proofs.writing.push_code.Goals as goal

pub returns-in_ok-push_indentation-in-Empty : goal.returns-in_ok-push_indentation-in-Empty
returns-in_ok-push_indentation-in-Empty g c =
    let o = c.args.out.now.items in
    let q = source_of c.args.source.now in
    on_ok_weaker c.push_str-in-Empty.result
    (λ h. five o c.push_start.new.out.items c.push_str.new.out.items c.push_end.new.out.items c.push_indentation.new.out.items _ (node_start c.args.depth) (codes "Result") (node_end q.plan.cost c.args.depth) (indentation c.args.depth) (codes "  One-Time Filter: false\n")
    c.in_ok-push_start-in-Empty.ensures c.in_ok-push_str-in-Empty.ensures c.in_ok-push_end-in-Empty.ensures c.in_ok-push_indentation-in-Empty.ensures h
    ∙ ap (λ code. o ++ code_text q c.args.depth (plan_code_of code)) (sym c.in-Empty.is))
    c.push_str-in-Empty.ensures

pub returns-in_ok-all-in-Steps : goal.returns-in_ok-all-in-Steps
returns-in_ok-all-in-Steps g c =
    let o = c.args.out.now.items in
    let q = source_of c.args.source.now in
    on_ok_weaker c.push_steps.result
    (λ h. h ∙ ap (λ ss. o ++ steps_text q c.args.depth ss) (c.as_slice-in-Steps.ensures.value ∙ c.in_ok-all-in-Steps.ensures ∙ ap reverse c.as_slice.ensures) ∙ ap (λ code. o ++ code_text q c.args.depth (plan_code_of code)) (sym c.in-Steps.is))
    c.push_steps.ensures
