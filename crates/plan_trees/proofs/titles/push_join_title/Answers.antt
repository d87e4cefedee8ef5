use Rattle.std.proofs.Common.{◌++◌, codes, if◌then◌else◌, map, sym, ap, ◌∙◌}
use Rattle.std.proofs.lemmas.Result.{on_ok_weaker}
use Rattle.plan_texts.specs.View.{on_of, plan_of}
use Rattle.plan_trees.specs.PlanTrees.{inner_title, left_title, on_text}
use Rattle.plan_trees.proofs.Written.{three}
use Rattle.plan_trees.proofs.titles.push_join_title.Goals as goal

pub returns-in_ok-push_str-2 : goal.returns-in_ok-push_str-2
returns-in_ok-push_str-2 g c =
    let o = c.args.out.now.items in
    let o2 = c.push_str-then-step.new.out.items in
    let p = plan_of c.args.plan.now in
    let s = c.args.step in
    let title = left_title s.step.method in
    let on_ = on_text p.ons s.step.entry in
    on_ok_weaker c.push_on.result
    (λ h. three o c.push_str.new.out.items o2 _ title (codes "  ") on_ (c.in_ok-push_str.ensures ∙ ap (λ t. o ++ t) c.left_title.ensures) c.in_ok-push_str-2.ensures (h ∙ ap (λ os. o2 ++ on_text (map on_of os) s.step.entry) c.as_slice.ensures)
    ∙ ap (λ b. o ++ (if b then title ++ codes "  " ++ on_ else inner_title p.filters s.step.method)) (sym c.if-step.true))
    c.push_on.ensures
