use Rattle.std.proofs.Common.{◌++◌, [], if◌then◌else◌, sym, ap, ◌∙◌}
use Rattle.std.proofs.lemmas.List.{append-nil}
use Rattle.std.proofs.lemmas.Result.{on_ok_weaker}
use Rattle.row_ast.specs.View.{expr_of}
use Rattle.plan_trees.specs.PlanTrees.{detail_text}
use Rattle.plan_trees.specs.View.{node_of}
use Rattle.plan_trees.proofs.details.push_if_detail.Goals as goal

pub returns-then-tested : goal.returns-then-tested
returns-then-tested g c =
    let line = detail_text (node_of c.args.node.now) (expr_of c.args.filter.now) in
    on_ok_weaker c.push_detail.result (λ h. h ∙ ap (λ b. c.args.out.now.items ++ (if b then line else [])) (sym c.if-tested.true ∙ c.is_detail-tested.ensures)) c.push_detail.ensures

pub returns-else-tested : goal.returns-else-tested
returns-else-tested g c =
    let line = detail_text (node_of c.args.node.now) (expr_of c.args.filter.now) in
    sym (append-nil c.args.out.now.items) ∙ ap (λ b. c.args.out.now.items ++ (if b then line else [])) (sym c.if-tested.false ∙ c.is_detail-tested.ensures)
