use Rattle.std.proofs.Common.{◌∙◌, ap, length, sym}
use Rattle.std.specs.Prelude.{string_bytes}
use Rattle.row_objects.specs.View.{table_of}
use Rattle.store.specs.Database.{rows_of}
use Rattle.access_matrix.specs.Matrix.{columns_words}
use Rattle.access_matrix.proofs.Reported.{matrix_row_is, row_done, row_is}
use Rattle.access_matrix.proofs.RowsRead.{rows_there}
use Rattle.access_matrix.proofs.auditing.push_row.Goals as goal

pub returns : goal.returns
returns g c =
    row_is c.finish_row.result _ _ _ _
    (matrix_row_is c.args.store.now c.args.role.now (table_of c.args.table) c.name.result.now (string_bytes c.in_ok-columns.columns) (string_bytes c.in_ok-why.why) c.count.result c.rows.result
    c.name.ensures
    ((rw c.as_slice.ensures at c.in_ok-columns.ensures) ∙ ap (λ l. columns_words (table_of c.args.table) l) (rw c.catalog-catalog.ensures.catalog at c.in_ok-names.ensures))
    (c.count.ensures ∙ c.in_ok-read.ensures.counted)
    (c.rows.ensures.rows ∙ ap length (sym (ap (λ n. rows_of c.args.store.now n) (sym c.name-2.ensures) ∙ rows_there c.args.store.now c.name-2.result.now c.contents_of.result.now c.contents_of.ensures)))
    (rw c.catalog-catalog.ensures.catalog at c.in_ok-why.ensures))
    (row_done c.finish_row.result _ _ _ _ _ _ _ _ _ _ _ _ _ _ c.requires.unfinished c.in_ok-push_text.ensures c.in_ok-push_text-2.ensures (rw c.as_str.ensures.value at c.in_ok-push_text-3.ensures)
    c.in_ok-push_count.ensures c.in_ok-push_count-2.ensures (rw c.as_str-2.ensures.value at c.in_ok-push_text-4.ensures) c.finish_row.ensures.ok)
