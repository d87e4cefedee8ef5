use Rattle.std.proofs.Common.{rules, ◌≡◌, false, sym}
use Rattle.std.specs.Str.{bytes_eq}
use Rattle.value.specs.Texts.{null_mark}
use Rattle.value.specs.Columns.{column_of}
use Rattle.tables.proofs.Cells.{cell_of-refused, cell_of-spelled, spelled_fits}
use Rattle.tables.proofs.load.read_cell.Goals as goal

pub returns-in-Ok-clause-cell : goal.returns-in-Ok-clause-cell
returns-in-Ok-clause-cell g c =
    let other : bytes_eq c.args.field.now null_mark ≡ false = search rules in
    cell_of-spelled (column_of c.args.column.now) c.args.row c.args.at c.args.field.now _ other (sym c.in-Ok.ensures)

pub returns-in-Ok-clause-fits : goal.returns-in-Ok-clause-fits
returns-in-Ok-clause-fits g c = spelled_fits c.args.column.now.data_type c.args.field.now _ (sym c.in-Ok.ensures)

pub returns-in-Err-clause-cell : goal.returns-in-Err-clause-cell
returns-in-Err-clause-cell g c =
    let other : bytes_eq c.args.field.now null_mark ≡ false = search rules in
    cell_of-refused (column_of c.args.column.now) c.args.row c.args.at c.args.field.now _ other (sym c.in-Err.ensures)
