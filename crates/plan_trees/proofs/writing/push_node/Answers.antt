use Rattle.std.proofs.Common.{◌++◌, map, ap, ◌∙◌}
use Rattle.std.proofs.lemmas.Result.{on_ok_weaker}
use Rattle.row_ast.specs.View.{expr_of}
use Rattle.plan_trees.specs.PlanTrees.{details, node_end, node_start, title}
use Rattle.plan_trees.specs.View.{node_of, source_of}
use Rattle.plan_trees.proofs.Written.{four}
use Rattle.plan_trees.proofs.writing.push_node.Goals as goal

pub returns : goal.returns
returns g c =
    let q = source_of c.args.source.now in
    let n = node_of c.args.node.now in
    on_ok_weaker c.push_details.result
    (λ h. four c.args.out.now.items c.push_start.new.out.items c.push_title.new.out.items c.push_end.new.out.items _ (node_start n.depth) (title q n) (node_end q.plan.cost n.depth) (details q.entries n 1 q.plan.filters)
    c.in_ok-push_start.ensures c.in_ok-push_title.ensures c.in_ok-push_end.ensures (h ∙ ap (λ es. c.push_end.new.out.items ++ details q.entries n 1 (map expr_of es)) c.as_slice.ensures))
    c.push_details.ensures
