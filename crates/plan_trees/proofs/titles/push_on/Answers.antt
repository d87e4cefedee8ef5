use Rattle.std.proofs.Common.{◌≡◌, ◌++◌, [], drop, sym, ap, ◌∙◌, arith}
use Rattle.std.specs.Prelude.{map}
use Rattle.std.proofs.Math.ListN.{drop_of_length-le}
use Rattle.std.proofs.lemmas.List.{append-nil}
use Rattle.std.proofs.lemmas.Result.{on_ok_weaker}
use Rattle.expr_texts.specs.ExprTexts.{expr_text}
use Rattle.plan_texts.specs.View.{on_of}
use Rattle.plan_trees.specs.PlanTrees.{on_text}
use Rattle.plan_trees.proofs.Written.{on_found, on_over}
use Rattle.plan_trees.proofs.titles.push_on.Goals as goal

pub loop-on-preserved : goal.loop-on-preserved
loop-on-preserved g c = record {
  text = on_over on_of c.args.ons.now c.loop-on.on-index c.on-item.result c.args.entry _ c.loop-on-test.true c.on-item.is c.loop-on.invariant.text c.if-on-entry.false;
  out = c.loop-on.invariant.out;
}

pub returns-then-on-entry : goal.returns-then-on-entry
returns-then-on-entry g c =
    on_ok_weaker c.push_expr.result
    (λ h. h ∙ ap (λ o. o ++ expr_text (on_of c.on-item.result).condition) c.loop-on.invariant.out ∙ ap (λ t. c.args.out.now.items ++ t) (on_found on_of c.args.ons.now c.loop-on.on-index c.on-item.result c.args.entry _ c.loop-on-test.true c.on-item.is c.loop-on.invariant.text c.if-on-entry.true))
    c.push_expr.ensures

pub returns : goal.returns
returns g c =
    let over : drop c.loop-on.on-index c.args.ons.now ≡ [] = drop_of_length-le c.args.ons.now (omega (arith, c.loop-on-test.false)) in
    c.loop-on.invariant.out ∙ sym (append-nil c.args.out.now.items) ∙ ap (λ t. c.args.out.now.items ++ t) (ap (λ os. on_text (map on_of os) c.args.entry) (sym over) ∙ c.loop-on.invariant.text)
