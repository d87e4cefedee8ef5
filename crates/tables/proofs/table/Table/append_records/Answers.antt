use Rattle.std.proofs.Common.{map, Err, refl}
use Rattle.value.specs.Columns.{column_of}
use Rattle.tables.proofs.Appends.{columns_are, count_is, refused_stops}
use Rattle.tables.proofs.table.Table.append_records.Goals as goal

pub returns-in-Err-clause-stops : goal.returns-in-Err-clause-stops
returns-in-Err-clause-stops g c =
    refused_stops (map column_of c.as_slice-columns.result.now) c.args.self.now.columns c.len-before.result c.args.self.now.rows c.args.records.now.records c.add_records.new.records
    (columns_are c.as_slice-columns.result.now c.self.inside.columns c.self.inside.rows.rows c.args.self.now c.as_slice-columns.ensures c.self.view_is)
    (count_is (map column_of c.self.inside.columns) c.len-before.result c.self.inside.rows.rows c.args.self.now c.len-before.ensures c.self.view_is)
    c.in-Err.error (Err c.in-Err.error) refl c.in-Err.ensures.rows.follow
