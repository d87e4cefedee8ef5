use Rattle.std.proofs.Common.{ℤ, FitsSigned, to_z, of_z, w64, rules, length, map, sym, ap, ◌∙◌}
use Rattle.std.proofs.lemmas.Int.{to_z-of_z}
use Rattle.std.proofs.lemmas.Simd.{length-zip2}
use Rattle.std.proofs.lemmas.List.{length-map}
use Rattle.value.specs.Datum.{Datum, int}
use Rattle.eval.specs.Operators.{comparison_of}
use Rattle.columns.specs.Columns.{int_unless, ints_of}
use Rattle.lane_filters.proofs.Shown.{held, read, written_back}
use Rattle.lane_filters.proofs.truths.Truths.of_column.Goals as goal

pub invariant_of-result : goal.invariant_of-result
invariant_of-result g c =
    let l = c.lanes.ensures in
    let cells = ints_of c.lanes.result.0.now l.0 in
    held (map (λ (d : Datum). comparison_of c.args.op d (int (to_z w64 (of_z w64 c.args.number)))) cells) _ _ c.cmp_lit.new.is_true c.cmp_lit.new.is_null (length c.lanes.result.0.now)
    (written_back c.in_ok-is_true.is_true.len c.cmp_lit.new.is_true c.in_ok-is_true.is_true.items (c.cmp_lit.auto.is_true ∙ ap length c.deref_mut.ensures.value) c.in_ok-is_true.is_true.ok.0)
    (written_back c.in_ok-is_null.is_null.len c.cmp_lit.new.is_null c.in_ok-is_null.is_null.items (c.cmp_lit.auto.is_null ∙ ap length c.deref_mut-2.ensures.value) c.in_ok-is_null.is_null.ok.0)
    (sym (length-map cells (λ (d : Datum). comparison_of c.args.op d (int (to_z w64 (of_z w64 c.args.number)))) ∙ length-zip2 int_unless c.lanes.result.0.now l.0 (sym l.1)))
    (c.cmp_lit.ensures l.0 l.1 l.2)

pub returns : goal.returns
returns g c =
    let l = c.lanes.ensures in
    let cells = ints_of c.lanes.result.0.now l.0 in
    read (map (λ (d : Datum). comparison_of c.args.op d (int (to_z w64 (of_z w64 c.args.number)))) cells) _ _ c.cmp_lit.new.is_true c.cmp_lit.new.is_null (length c.lanes.result.0.now)
    (written_back c.in_ok-is_true.is_true.len c.cmp_lit.new.is_true c.in_ok-is_true.is_true.items (c.cmp_lit.auto.is_true ∙ ap length c.deref_mut.ensures.value) c.in_ok-is_true.is_true.ok.0)
    (written_back c.in_ok-is_null.is_null.len c.cmp_lit.new.is_null c.in_ok-is_null.is_null.items (c.cmp_lit.auto.is_null ∙ ap length c.deref_mut-2.ensures.value) c.in_ok-is_null.is_null.ok.0)
    (sym (length-map cells (λ (d : Datum). comparison_of c.args.op d (int (to_z w64 (of_z w64 c.args.number)))) ∙ length-zip2 int_unless c.lanes.result.0.now l.0 (sym l.1)))
    (c.cmp_lit.ensures l.0 l.1 l.2)
    ∙ ap (map (λ (d : Datum). comparison_of c.args.op d (int (to_z w64 (of_z w64 c.args.number))))) l.3
    ∙ (let fits : FitsSigned w64 c.args.number = search rules in ap (λ (z : ℤ). map (λ (d : Datum). comparison_of c.args.op d (int z)) c.args.column.now) (to_z-of_z w64 c.args.number fits))
