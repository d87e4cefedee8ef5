use Rattle.std.proofs.Common.{length, map, refl, sym, ◌∙◌}
use Rattle.std.proofs.lemmas.List.{length-map}
use Rattle.eval.specs.Operators.{null_test}
use Rattle.columns.specs.Data.{cells_of}
use Rattle.lane_filters.proofs.Shown.{held, nulls_shown, read}
use Rattle.lane_filters.proofs.truths.Truths.of_nulls.Goals as goal

pub invariant_of-result : goal.invariant_of-result
invariant_of-result g c =
    let cells = cells_of c.args.column.now in
    let words = c.nulls-words.result.now in
    held (map null_test cells) _ c.in_ok-nulls.nulls.items words c.in_ok-nulls.nulls.items c.len.result c.copy_from_slice.ensures.items refl (c.len.ensures ∙ sym (length-map cells null_test))
    (nulls_shown cells words c.in_ok-nulls.nulls.items (length words) c.nulls-words.ensures refl c.in_ok-nulls.ensures)

pub returns : goal.returns
returns g c =
    let cells = cells_of c.args.column.now in
    let words = c.nulls-words.result.now in
    read (map null_test cells) _ c.in_ok-nulls.nulls.items words c.in_ok-nulls.nulls.items c.len.result c.copy_from_slice.ensures.items refl (c.len.ensures ∙ sym (length-map cells null_test))
    (nulls_shown cells words c.in_ok-nulls.nulls.items (length words) c.nulls-words.ensures refl c.in_ok-nulls.ensures)
