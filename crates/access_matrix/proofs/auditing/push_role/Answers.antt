use Rattle.std.proofs.Common.{◌∙◌, ◌∷◌, [], ap, map, refl, sym, arith}
use Rattle.std.specs.Prelude.{option_map}
use Rattle.answer_rows.specs.Growing.{only}
use Rattle.row_objects.specs.View.{table_of}
use Rattle.access_matrix.specs.Matrix.{matrix_row}
use Rattle.access_matrix.proofs.Loops.{from_index, next, over}
use Rattle.access_matrix.proofs.Reported.{only_of}
use Rattle.access_matrix.proofs.RowsRead.{there_at}
use Rattle.access_matrix.proofs.auditing.push_role.Goals as goal

pub push_row-requires-clause-there : goal.push_row-requires-clause-there
push_row-requires-clause-there g c =
    there_at c.args.store.now.catalog.tables c.loop-index.index (table_of c.unwrap-table.result)
    (sym (rw c.catalog-catalog.ensures.catalog at c.table_at.ensures) ∙ ap (λ o. option_map (λ t. table_of t) o) c.unwrap-table.ensures)

pub loop-index-preserved : goal.loop-index-preserved
loop-index-preserved g c = record {
  unfinished = ap (λ g. g.unfinished) c.in_ok-push_row.ensures;
  rest = next (λ t. matrix_row c.args.store.now c.args.role.now t ∷ []) (λ ts. map (λ t. matrix_row c.args.store.now c.args.role.now t) ts) (λ t ts. refl)
      c.args.store.now.catalog.tables c.loop-index.index c.loop-index.rows.rows _ c.loop-index.invariant.rest (table_of c.unwrap-table.result)
      (from_index c.args.store.now.catalog.tables c.loop-index.index (table_of c.unwrap-table.result)
      (sym (rw c.catalog-catalog.ensures.catalog at c.table_at.ensures) ∙ ap (λ o. option_map (λ t. table_of t) o) c.unwrap-table.ensures))
      _ (ap (λ g. g.rows) c.in_ok-push_row.ensures);
}

pub returns : goal.returns
returns g c =
    let all = rw c.catalog-catalog.ensures.catalog at c.tables-index-end.ensures in
    only_of c.loop-index.rows c.loop-index.invariant.unfinished
    ∙ ap (λ rows. only rows) (over (λ t. matrix_row c.args.store.now c.args.role.now t ∷ []) (λ ts. map (λ t. matrix_row c.args.store.now c.args.role.now t) ts) (λ t ts. refl)
    c.args.store.now.catalog.tables c.loop-index.index c.loop-index.rows.rows _ c.loop-index.invariant.rest refl (omega (arith, all, c.loop-index-test.false)))
