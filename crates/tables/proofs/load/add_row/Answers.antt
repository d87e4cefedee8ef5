use Rattle.std.proofs.Common.{◌++◌, ◌∷◌, [], List, arith, length, map, sym, ap, ◌∙◌}
use Rattle.std.proofs.lemmas.List.{length-map}
use Rattle.std.proofs.lemmas.Result.{IfOk-from_err}
use Rattle.value.specs.Columns.{column_of}
use Rattle.value.specs.Datum.{Row}
use Rattle.tables.specs.Loading.{cells_of}
use Rattle.tables.proofs.Cells.{exit_fails, exit_no_reader}
use Rattle.tables.proofs.load.add_row.Goals as goal

pub returns-in_err-add_cells-clause-row : goal.returns-in_err-add_cells-clause-row
returns-in_err-add_cells-clause-row g c = IfOk-from_err c.from_residual.result _ c.from_residual.ensures.0

pub returns-in_err-add_cells-clause-refused : goal.returns-in_err-add_cells-clause-refused
returns-in_err-add_cells-clause-refused g c = exit_fails c.from_residual.result c.in_err-add_cells.field-0.0 (cells_of (map column_of c.args.columns.now) c.args.row 0 c.args.cells.now) c.from_residual.ensures.1 c.in_err-add_cells.ensures.cells

pub returns-in_err-add_cells-clause-no_reader : goal.returns-in_err-add_cells-clause-no_reader
returns-in_err-add_cells-clause-no_reader g c = exit_no_reader c.from_residual.result c.in_err-add_cells.field-0.0 c.from_residual.ensures.1 c.in_err-add_cells.ensures.no_reader

pub finish_row-requires-clause-whole : goal.finish_row-requires-clause-whole
finish_row-requires-clause-whole g c =
    let cols = map column_of c.args.columns.now in
    c.in_ok-add_cells.ensures.wide ∙ sym (ap length (c.add_cells.ensures.types ∙ c.requires.types) ∙ length-map cols (λ c. c.data_type) ∙ length-map c.args.columns.now column_of)

pub finish_row-requires-clause-room : goal.finish_row-requires-clause-room
finish_row-requires-clause-room g c = omega (arith, ap length c.add_cells.ensures.rows, c.requires.room)

pub returns-clause-row : goal.returns-clause-row
returns-clause-row g c = (
  c.add_cells.new.rows.unfinished,
  c.finish_row.ensures.rows ∙ ap (λ (l : List Row). l ++ c.add_cells.new.rows.unfinished ∷ []) c.add_cells.ensures.rows,
  c.in_ok-add_cells.ensures.wide ∙ sym (length-map c.args.columns.now column_of),
  c.in_ok-add_cells.ensures.cells,
)
