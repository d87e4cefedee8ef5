use Rattle.std.proofs.Common.{◌∙◌, ◌-◌, sym, ap, take, slice_index_or}
use Rattle.std.proofs.Math.Numerals.{add-one}
use Rattle.std.proofs.Math.Seq.{take-suc}
use Rattle.std.proofs.lemmas.List.Elements.{All-push}
use Rattle.indexes.specs.Indexes.{IsIndex}
use Rattle.indexes.proofs.Made.{one_more}
use Rattle.indexes.proofs.index.indexes_of.Goals as goal

pub loop-column-preserved : goal.loop-column-preserved
loop-column-preserved g c =
    let i = c.loop-column.column-index in
    let columns = c.args.columns.now in
    let made = c.in_ok-index_on.ensures in
    rw c.in_ok-push.ensures.ok (record {
      columns = one_more c.loop-column.indexes _ (take i columns) (slice_index_or columns i 0) c.loop-column.invariant.columns made.0 ∙ sym (ap (λ n. take n columns) (add-one i) ∙ take-suc columns i 0 c.loop-column-test.true);
      each = All-push (λ x. IsIndex c.args.table.now.rows (x.column - 1) x.numbers) c.loop-column.indexes _ c.loop-column.invariant.each made.1;
    })
