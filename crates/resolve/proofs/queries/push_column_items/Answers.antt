use Rattle.std.proofs.Common.{◌≡◌, ◌++◌, ◌∷◌, [], List, map, sym, ap, ◌∙◌, append-nil, append_assoc, arith}
use Rattle.std.proofs.lemmas.List.{at_drop_all, at_drop_more, map-append}
use Rattle.value.specs.Columns.{column_of}
use Rattle.expr.specs.View.{bound_item_of}
use Rattle.expr.specs.BoundQuery.{BoundItem}
use Rattle.resolve.specs.BoundQueries.{column_items}
use Rattle.resolve.proofs.queries.push_column_items.Goals as goal

-- an item is put: the part that is there, and then the rest, is still the whole
put_item : {I : Type 0} (v : I → BoundItem) (old new : List I) (x : I) (here : BoundItem) (rest whole : List BoundItem) → new ≡ old ++ x ∷ [] → v x ≡ here → map v old ++ here ∷ rest ≡ whole → map v new ++ rest ≡ whole
put_item v old new x here rest whole made is so_far =
    ap (λ l. map v l ++ rest) made ∙ ap (λ l. l ++ rest) (map-append v old (x ∷ [])) ∙ append_assoc (map v old) (v x ∷ []) rest ∙ ap (λ i. map v old ++ i ∷ rest) is ∙ so_far

pub loop-index-preserved : goal.loop-index-preserved
loop-index-preserved g c =
    let next = at_drop_more (λ l. map (λ i. bound_item_of i) c.loop-index.items ++ column_items c.args.entry c.loop-index.index (map (λ x. column_of x) l)) c.args.columns.now c.loop-index.index c.index-columns-index.result (omega (arith, c.loop-index-test.true)) in
    let here = rw (← c.index-columns-index.is) at next in
    put_item (λ i. bound_item_of i) c.loop-index.items _ _ _ _ _ c.in_ok-push.ensures.ok c.in_ok-column_item.ensures (sym here ∙ c.loop-index.invariant)

pub returns : goal.returns
returns g c =
    sym (append-nil (map (λ i. bound_item_of i) c.loop-index.items))
    ∙ sym (at_drop_all (λ l. map (λ i. bound_item_of i) c.loop-index.items ++ column_items c.args.entry c.loop-index.index (map (λ x. column_of x) l)) c.args.columns.now c.loop-index.index (omega (arith, c.loop-index-test.false)))
    ∙ c.loop-index.invariant
