use Rattle.std.proofs.Common.{◌≡◌, ◌∷◌, ◌+◌, suc, ◌++◌, [], drop, drop-cons, map, refl, sym, ap, ◌∙◌, arith}
use Rattle.std.proofs.Math.ListN.{drop_of_length-le}
use Rattle.std.proofs.lemmas.List.{append-nil}
use Rattle.row_ast.specs.View.{expr_of}
use Rattle.plan_texts.specs.View.{plan_entry_of}
use Rattle.plan_trees.specs.PlanTrees.{details}
use Rattle.plan_trees.specs.View.{node_of}
use Rattle.plan_trees.proofs.Written.{details_next}
use Rattle.plan_trees.proofs.details.push_details.Goals as goal

pub loop-index-preserved : goal.loop-index-preserved
loop-index-preserved g c =
    let entries = map plan_entry_of c.args.entries.now in
    let node = node_of c.args.node.now in
    let i = c.loop-index.index in
    let e = c.index-filters-index.result in
    let n : i + 1 ≡ suc i = omega arith in
    let split : drop i c.args.filters.now ≡ e ∷ drop (i + 1) c.args.filters.now = rw (n, drop-cons c.args.filters.now i e c.loop-index-test.true, ← c.index-filters-index.is) refl in
    details_next entries node c.loop-index.out.items c.push_if_detail.new.out.items _ (i + 1) (expr_of e) (map expr_of (drop (i + 1) c.args.filters.now)) c.in_ok-push_if_detail.ensures
    (ap (λ fs. c.loop-index.out.items ++ details entries node (i + 1) (map expr_of fs)) (sym split) ∙ c.loop-index.invariant)

pub returns : goal.returns
returns g c =
    let over : drop c.loop-index.index c.args.filters.now ≡ [] = drop_of_length-le c.args.filters.now (omega (arith, c.loop-index-test.false)) in
    sym (append-nil c.loop-index.out.items) ∙ ap (λ fs. c.loop-index.out.items ++ details (map plan_entry_of c.args.entries.now) (node_of c.args.node.now) (c.loop-index.index + 1) (map expr_of fs)) (sym over) ∙ c.loop-index.invariant
