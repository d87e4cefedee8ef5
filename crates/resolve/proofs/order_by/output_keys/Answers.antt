use Rattle.std.proofs.Common.{sym, ap, ◌∙◌, map, ◌∷◌, [], ◌++◌, arith, List}
use Rattle.std.proofs.lemmas.Result.{err_from_is_err_and}
use Rattle.memory.specs.declared.failure.Failure.TheVariants.{Error}
use Rattle.row_ast.specs.View.{sort_key_of}
use Rattle.expr.specs.View.{bound_item_of}
use Rattle.expr.specs.declared.query.OutputKey.{OutputKey}
use Rattle.memory.specs.Results.{on_each}
use Rattle.memory.proofs.Each.{after_nothing}
use Rattle.scope.proofs.Found.{each_after, each_next, each_over, failed, walk_next, walk_opened, walk_over}
use Rattle.resolve.specs.OrderBy.{output_key}
use Rattle.resolve.proofs.order_by.output_keys.Goals as goal

pub returns-in-Err : goal.returns-in-Err
returns-in-Err g c =
    failed (λ (key : OutputKey). key) (λ (keys : List OutputKey). keys) (Error c.in-Err.fault) _ _ _
    (walk_opened (λ known x. output_key (map (λ i. bound_item_of i) c.args.items.now) x) (λ known key. known ++ key ∷ []) (each_after (output_key (map (λ i. bound_item_of i) c.args.items.now))) (λ x. sort_key_of x) c.args.order_by.now c.loop-key.key-index c.loop-key.keys _ c.loop-key.invariant (each_next (output_key (map (λ i. bound_item_of i) c.args.items.now))) c.key-item.result c.loop-key-test.true c.key-item.is)
    (sym c.in-Err.ensures)

pub returns-in_err-push-in-Ok : goal.returns-in_err-push-in-Ok
returns-in_err-push-in-Ok g c = let p = err_from_is_err_and c.from_residual.result c.from_residual.ensures.1 in rw (p.1, p.2) tt

pub loop-key-init : goal.loop-key-init
loop-key-init g c =
    ap (λ keys. each_after (output_key (map (λ i. bound_item_of i) c.args.items.now)) keys (map (λ x. sort_key_of x) c.args.order_by.now)) c.new-keys.ensures ∙ after_nothing (on_each (output_key (map (λ i. bound_item_of i) c.args.items.now)) (map (λ x. sort_key_of x) c.args.order_by.now))

pub loop-key-preserved : goal.loop-key-preserved
loop-key-preserved g c =
    walk_next (λ known x. output_key (map (λ i. bound_item_of i) c.args.items.now) x) (λ known key. known ++ key ∷ []) (each_after (output_key (map (λ i. bound_item_of i) c.args.items.now))) (λ x. sort_key_of x) c.args.order_by.now c.loop-key.key-index c.loop-key.keys _ c.loop-key.invariant (each_next (output_key (map (λ i. bound_item_of i) c.args.items.now))) c.key-item.result c.loop-key-test.true c.key-item.is
    c.in-Ok.key (sym c.in-Ok.ensures) _ c.in_ok-push-in-Ok.ensures.ok

pub returns : goal.returns
returns g c =
    walk_over (λ known x. output_key (map (λ i. bound_item_of i) c.args.items.now) x) (λ known key. known ++ key ∷ []) (each_after (output_key (map (λ i. bound_item_of i) c.args.items.now))) (λ x. sort_key_of x) c.args.order_by.now c.loop-key.key-index c.loop-key.keys _ c.loop-key.invariant (each_over (output_key (map (λ i. bound_item_of i) c.args.items.now))) (omega (arith, c.loop-key-test.false))
