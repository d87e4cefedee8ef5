use Rattle.std.proofs.Common.{◌∙◌, ◌-◌, ◌++◌, ◌∷◌, [], sym, ap, map, take}
use Rattle.std.proofs.lemmas.List.{map_more}
use Rattle.std.proofs.lemmas.List.Elements.{All-push}
use Rattle.indexes.specs.Indexes.{IsIndex}
use Rattle.indexes.proofs.Made.{one_more}
use Rattle.indexes.proofs.index.remade.Goals as goal

pub loop-other-preserved : goal.loop-other-preserved
loop-other-preserved g c =
    let i = c.loop-other.other-index in
    let others = c.args.others.now in
    let other = c.other-item.result in
    let made = c.in_ok-index_on.ensures in
    rw c.in_ok-push.ensures.items (record {
      columns =
          one_more c.loop-other.indexes.items _ (map (λ x. x.column) (take i others)) other.column c.loop-other.invariant.columns made.0
          ∙ sym (map_more (λ x. x.column) others i other c.loop-other-test.true ∙ ap (λ o. map (λ x. x.column) (take i others) ++ o.column ∷ []) (sym c.other-item.is));
      each = All-push (λ x. IsIndex c.args.table.now.rows (x.column - 1) x.numbers) c.loop-other.indexes.items _ c.loop-other.invariant.each made.1;
    })
