use Rattle.std.proofs.Common.{◌∙◌, ap, map}
use Rattle.value.specs.Columns.{column_of}
use Rattle.value.specs.Datum.{cell, row_at}
use Rattle.tables.specs.Loading.{TableRows}
use Rattle.tables.proofs.Wide.{column_within, row_within}
use Rattle.tables.proofs.table.Table.value.Goals as goal

pub cell-requires-clause-row : goal.cell-requires-clause-row
cell-requires-clause-row g c = row_within (map column_of c.self.inside.columns) c.self.inside.rows.rows c.args.self.now c.args.row c.self.view_is c.requires.row

pub cell-requires-clause-column : goal.cell-requires-clause-column
cell-requires-clause-column g c = column_within c.self.inside.columns c.self.inside.rows.rows c.args.self.now c.args.column c.self.inside.rows.types c.self.view_is c.self.invariant.types c.requires.column

pub returns : goal.returns
returns g c = c.cell.ensures ∙ ap (λ (t : TableRows). cell (row_at t.rows c.args.row) c.args.column) c.self.view_is
