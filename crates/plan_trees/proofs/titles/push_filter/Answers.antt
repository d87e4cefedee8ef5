use Rattle.std.proofs.Common.{◌++◌, sym, ap, ◌∙◌}
use Rattle.std.proofs.lemmas.Bool.{ltb-true, ltb-false}
use Rattle.std.proofs.lemmas.List.{append-nil}
use Rattle.std.proofs.lemmas.Result.{on_ok_weaker}
use Rattle.row_ast.specs.View.{expr_of}
use Rattle.expr_texts.specs.ExprTexts.{expr_text}
use Rattle.plan_trees.specs.PlanTrees.{text_if_found}
use Rattle.plan_trees.proofs.Items.{item_is, no_item}
use Rattle.plan_trees.proofs.titles.push_filter.Goals as goal

pub returns-in-Some : goal.returns-in-Some
returns-in-Some g c =
    let is = item_is expr_of c.args.filters.now c.args.number _ c.if-number-eq0.false (ltb-true _ _ (sym c.in-Some.ensures.lookup.0)) in
    on_ok_weaker c.push_expr.result (λ last. last ∙ ap (λ t. c.args.out.now.items ++ t) (ap (λ e. expr_text (expr_of e)) c.in-Some.ensures.lookup.1 ∙ sym (ap text_if_found is))) c.push_expr.ensures

pub returns-in-None : goal.returns-in-None
returns-in-None g c =
    sym (append-nil c.args.out.now.items) ∙ ap (λ t. c.args.out.now.items ++ t) (sym (ap text_if_found (no_item expr_of c.args.filters.now c.args.number c.if-number-eq0.false (ltb-false _ _ (sym c.in-None.ensures.lookup.0)))))
