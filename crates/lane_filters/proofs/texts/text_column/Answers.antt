use Rattle.std.proofs.Common.{List, map, sym, ap, subst, ◌∙◌}
use Rattle.value.specs.Datum.{Datum, cell}
use Rattle.columns.specs.Data.{cells_of}
use Rattle.expr.specs.Bound as bound
use Rattle.expr.specs.View.{bound_expr_of}
use Rattle.lane_filters.specs.Outcomes.{AreValues}
use Rattle.lane_filters.proofs.Nodes.{column_values}
use Rattle.lane_filters.proofs.texts.text_column.Goals as goal

pub returns-in-Texts-clause-values : goal.returns-in-Texts-clause-values
returns-in-Texts-clause-values g c = λ role.
    let rows = c.args.table.now.rows in
    subst (λ (xs : List Datum). AreValues role rows (bound_expr_of c.args.expression.now) xs) (sym c.data.ensures.cells ∙ ap cells_of c.in-Texts.is)
    (subst (λ (e : bound.BoundExpr). AreValues role rows e (map (λ r. cell r c.in-Column.id.column) rows)) (sym (ap bound_expr_of c.in-Column.is)) (column_values role rows c.in-Column.id))
