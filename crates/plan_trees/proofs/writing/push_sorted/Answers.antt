use Rattle.std.proofs.Common.{◌++◌, ◌∙◌, codes, sym, ap}
use Rattle.std.proofs.lemmas.Result.{on_ok_weaker}
use Rattle.plan_trees.specs.PlanTrees.{code_text, column_text, node_end, sorted_text}
use Rattle.plan_trees.specs.View.{source_of}
use Rattle.plan_trees.proofs.Written.{four}
use Rattle.plan_trees.proofs.writing.push_sorted.Goals as goal

pub returns-in-None : goal.returns-in-None
returns-in-None g c =
    on_ok_weaker c.push_code.result (λ h. h ∙ ap (λ s. c.args.out.now.items ++ sorted_text (source_of c.args.source.now) s) (sym c.in-None.is)) c.push_code.ensures

pub returns-in_ok-push_end-in-Some : goal.returns-in_ok-push_end-in-Some
returns-in_ok-push_end-in-Some g c =
    let o = c.args.out.now.items in
    let q = source_of c.args.source.now in
    let s = c.in-Some.sort in
    on_ok_weaker c.push_code-in-Some.result
    (λ h. four o c.push_str.new.out.items c.push_column.new.out.items c.push_end.new.out.items _ (codes "Sort  ") (column_text q s.entry s.column) (node_end q.plan.cost 0) (code_text q 1 q.plan.code)
    c.in_ok-push_str-in-Some.ensures c.in_ok-push_column-in-Some.ensures c.in_ok-push_end-in-Some.ensures h
    ∙ ap (λ x. o ++ sorted_text q x) (sym c.in-Some.is))
    c.push_code-in-Some.ensures
