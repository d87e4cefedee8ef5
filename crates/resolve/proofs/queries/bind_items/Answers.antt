use Rattle.std.proofs.Common.{map, ap, ◌∙◌, ◌∷◌, [], ◌++◌, arith}
use Rattle.std.proofs.lemmas.List.{map-append}
use Rattle.std.proofs.lemmas.Result.{err_from_is_err_and}
use Rattle.row_ast.specs.View.{select_item_of}
use Rattle.expr.specs.View.{bound_item_of}
use Rattle.scope.specs.View.{entry_of}
use Rattle.memory.specs.Results.{on_each}
use Rattle.memory.proofs.Each.{after_nothing}
use Rattle.scope.proofs.Found.{each_after, each_next, each_over, failed, walk_next, walk_opened, walk_over}
use Rattle.resolve.specs.BoundQueries.{bound_item}
use Rattle.resolve.proofs.queries.bind_items.Goals as goal

pub returns-in-Err : goal.returns-in-Err
returns-in-Err g c =
    failed (λ i. bound_item_of {A = g.row.A.Denot} i) (λ is. map (λ i. bound_item_of {A = g.row.A.Denot} i) is) c.in-Err.failure _ _ _
    (walk_opened (λ known x. bound_item (map (λ e. entry_of e) c.args.entries.now) c.args.scope x) (λ known x. known ++ x ∷ []) (each_after (bound_item (map (λ e. entry_of e) c.args.entries.now) c.args.scope)) (λ x. select_item_of x) c.args.items.now c.loop-item.item-index (map (λ i. bound_item_of i) c.loop-item.all) _ c.loop-item.invariant (each_next (bound_item (map (λ e. entry_of e) c.args.entries.now) c.args.scope)) c.item-item.result c.loop-item-test.true c.item-item.is)
    c.in-Err.ensures

pub returns-in_err-push-in-Ok : goal.returns-in_err-push-in-Ok
returns-in_err-push-in-Ok g c = let p = err_from_is_err_and c.from_residual.result c.from_residual.ensures.1 in rw (p.1, p.2) tt

pub loop-item-init : goal.loop-item-init
loop-item-init g c =
    ap (λ all. each_after (bound_item (map (λ e. entry_of e) c.args.entries.now) c.args.scope) (map (λ i. bound_item_of i) all) (map (λ i. select_item_of i) c.args.items.now)) c.new-all.ensures ∙ after_nothing (on_each (bound_item (map (λ e. entry_of e) c.args.entries.now) c.args.scope) (map (λ i. select_item_of i) c.args.items.now))

pub loop-item-preserved : goal.loop-item-preserved
loop-item-preserved g c =
    walk_next (λ known x. bound_item (map (λ e. entry_of e) c.args.entries.now) c.args.scope x) (λ known x. known ++ x ∷ []) (each_after (bound_item (map (λ e. entry_of e) c.args.entries.now) c.args.scope)) (λ x. select_item_of x) c.args.items.now c.loop-item.item-index (map (λ i. bound_item_of i) c.loop-item.all) _ c.loop-item.invariant (each_next (bound_item (map (λ e. entry_of e) c.args.entries.now) c.args.scope)) c.item-item.result c.loop-item-test.true c.item-item.is
    (bound_item_of c.in-Ok.item) c.in-Ok.ensures _ (ap (map (λ i. bound_item_of i)) c.in_ok-push-in-Ok.ensures.ok ∙ map-append (λ i. bound_item_of i) c.loop-item.all (c.in-Ok.item ∷ []))

pub returns : goal.returns
returns g c =
    walk_over (λ known x. bound_item (map (λ e. entry_of e) c.args.entries.now) c.args.scope x) (λ known x. known ++ x ∷ []) (each_after (bound_item (map (λ e. entry_of e) c.args.entries.now) c.args.scope)) (λ x. select_item_of x) c.args.items.now c.loop-item.item-index (map (λ i. bound_item_of i) c.loop-item.all) _ c.loop-item.invariant (each_over (bound_item (map (λ e. entry_of e) c.args.entries.now) c.args.scope)) (omega (arith, c.loop-item-test.false))
