use Rattle.std.proofs.Common.{◌∙◌, ap, map, get_or}
use Rattle.value.specs.Datum.{Row, cell}
use Rattle.value.specs.declared.types.ColType.TheVariants.{Bigint}
use Rattle.columns.specs.Rows.{types_of}
use Rattle.tables.specs.Loading.{TableRows}
use Rattle.tables.proofs.Wide.{column_within}
use Rattle.tables.proofs.table.Table.data.Goals as goal

pub data-requires-clause-column : goal.data-requires-clause-column
data-requires-clause-column g c = column_within c.self.inside.columns c.self.inside.rows.rows c.args.self.now c.args.column c.self.inside.rows.types c.self.view_is c.self.invariant.types c.requires

pub returns-clause-data_type : goal.returns-clause-data_type
returns-clause-data_type g c = c.data.ensures.data_type ∙ ap (λ l. get_or l c.args.column Bigint) c.self.invariant.types ∙ ap (λ (t : TableRows). get_or (types_of t.columns) c.args.column Bigint) c.self.view_is

pub returns-clause-cells : goal.returns-clause-cells
returns-clause-cells g c = c.data.ensures.cells ∙ ap (λ (t : TableRows). map (λ (row : Row). cell row c.args.column) t.rows) c.self.view_is
