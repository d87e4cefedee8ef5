use Rattle.std.proofs.Common.{◌≡◌, ℤ, FitsSigned, to_z, of_z, w64, rules, length, map, replicate, sym, ap, ◌∙◌}
use Rattle.std.specs.Simd.Lanes.{zip2}
use Rattle.std.proofs.lemmas.Int.{to_z-of_z}
use Rattle.std.proofs.lemmas.Result.{IfOk-weaker}
use Rattle.value.specs.Datum.{Datum, int}
use Rattle.value.specs.Orders.{of_bool}
use Rattle.value.specs.declared.operators.Comparison.{Comparison}
use Rattle.eval.specs.Operators.{comparison_of}
use Rattle.columns.specs.Comparing.{holds}
use Rattle.lane_filters.specs.View.{values_of}
use Rattle.lane_filters.proofs.Operators.{literal_left, literal_right, two_literals}
use Rattle.lane_filters.proofs.leaves.compared.Goals as goal

pub returns-in-Column-Number : goal.returns-in-Column-Number
returns-in-Column-Number g c =
    let column = c.in-Column-Number.column.now in
    let n = c.in-Column-Number.n in
    let rows = c.args.rows in
    let op = c.args.op in
    let fits : FitsSigned w64 n = search rules in
    let same : to_z w64 (of_z w64 n) ≡ n = to_z-of_z w64 n fits in
    let many : length column ≡ rows = sym (ap (λ o. length (values_of rows o)) c.in-Column-Number.is-0) ∙ c.requires.left in
    IfOk-weaker c.of_column.result _ _
    (λ t p.
    p ∙ ap (λ (z : ℤ). map (λ (d : Datum). comparison_of op d (int z)) column) same ∙ literal_right op rows n column many
    ∙ sym (λ i. zip2 (comparison_of op) (values_of rows (c.in-Column-Number.is-0 i)) (values_of rows (c.in-Column-Number.is-1 i))))
    c.of_column.ensures

pub returns-in-Number-Column : goal.returns-in-Number-Column
returns-in-Number-Column g c =
    let column = c.in-Number-Column.column.now in
    let n = c.in-Number-Column.n in
    let rows = c.args.rows in
    let op = c.args.op in
    let fits : FitsSigned w64 n = search rules in
    let same : to_z w64 (of_z w64 n) ≡ n = to_z-of_z w64 n fits in
    let many : length column ≡ rows = sym (ap (λ o. length (values_of rows o)) c.in-Number-Column.is-1) ∙ c.requires.right in
    IfOk-weaker c.of_column-in-Number-Column.result _ _
    (λ t p.
    p ∙ ap (λ (z : ℤ). map (λ (d : Datum). comparison_of c.commutator.result d (int z)) column) same
    ∙ ap (λ (o : Comparison). map (λ (d : Datum). comparison_of o d (int n)) column) c.commutator.ensures ∙ literal_left op rows n column many
    ∙ sym (λ i. zip2 (comparison_of op) (values_of rows (c.in-Number-Column.is-0 i)) (values_of rows (c.in-Number-Column.is-1 i))))
    c.of_column-in-Number-Column.ensures

pub returns-in-Number-Number : goal.returns-in-Number-Number
returns-in-Number-Number g c =
    let m = c.in-Number-Number.m in
    let n = c.in-Number-Number.n in
    let rows = c.args.rows in
    let op = c.args.op in
    let fits_left : FitsSigned w64 m = search rules in
    let fits_right : FitsSigned w64 n = search rules in
    IfOk-weaker c.all.result _ _
    (λ t p.
    p ∙ ap (λ b. replicate rows (of_bool b)) (c.holds.ensures ∙ (λ i. holds op (to_z-of_z w64 m fits_left i) (to_z-of_z w64 n fits_right i))) ∙ two_literals op rows m n
    ∙ sym (λ i. zip2 (comparison_of op) (values_of rows (c.in-Number-Number.is-0 i)) (values_of rows (c.in-Number-Number.is-1 i))))
    c.all.ensures
