use Rattle.std.proofs.Common.{◌≡◌, ℤ, List, length, map, replicate, FitsSigned, to_z, of_z, w64, rules, sym, ap, subst, ◌∙◌}
use Rattle.std.proofs.lemmas.Int.{to_z-of_z}
use Rattle.value.specs.Datum.{Datum, cell, datum, int}
use Rattle.columns.specs.Data.{cells_of}
use Rattle.expr.specs.Bound as bound
use Rattle.expr.specs.View.{bound_expr_of}
use Rattle.lane_filters.specs.Outcomes.{AreValues}
use Rattle.lane_filters.proofs.Nodes.{column_values, literal_values}
use Rattle.lane_filters.proofs.operand.operand_of.Goals as goal

pub returns-in-Ints-clause-values : goal.returns-in-Ints-clause-values
returns-in-Ints-clause-values g c = λ role.
    let rows = c.args.table.now.rows in
    subst (λ (xs : List Datum). AreValues role rows (bound_expr_of c.args.expression.now) xs) (sym c.data.ensures.cells ∙ ap cells_of c.in-Ints.is)
    (subst (λ (e : bound.BoundExpr). AreValues role rows e (map (λ r. cell r c.in-Column.id.column) rows)) (sym (ap bound_expr_of c.in-Column.is)) (column_values role rows c.in-Column.id))

pub returns-in-Int-clause-values : goal.returns-in-Int-clause-values
returns-in-Int-clause-values g c = λ role.
    let rows = c.args.table.now.rows in
    let n = c.in-Int.n in
    let fits : FitsSigned w64 n = search rules in
    let same : to_z w64 (of_z w64 n) ≡ n = to_z-of_z w64 n fits in
    let is : bound_expr_of c.args.expression.now ≡ bound.Literal (int n) = ap bound_expr_of c.in-Literal.is ∙ ap (λ v. bound.Literal (datum v)) c.in-Int.is in
    subst (λ (z : ℤ). AreValues role rows (bound_expr_of c.args.expression.now) (replicate (length rows) (int z))) (sym same)
    (subst (λ (e : bound.BoundExpr). AreValues role rows e (replicate (length rows) (int n))) (sym is) (literal_values role rows (int n)))
