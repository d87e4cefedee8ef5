use Rattle.std.proofs.Common.{map}
use Rattle.std.proofs.lemmas.Result.{err_from_is_err_and}
use Rattle.value.specs.Columns.{column_of}
use Rattle.tables.proofs.Follow.{header_then_rows, nothing_added}
use Rattle.tables.proofs.load.add_records.Goals as goal

pub returns-in_err-read_header-clause-rows : goal.returns-in_err-read_header-clause-rows
returns-in_err-read_header-clause-rows g c =
    let p = err_from_is_err_and c.from_residual.result c.from_residual.ensures.1 in
    rw (p.1, p.2) (nothing_added (map column_of c.args.columns.now) c.args.room c.args.records.now c.read_header.new.records c.args.rows.now.rows _ c.in_err-read_header.ensures.header)

pub returns-clause-rows : goal.returns-clause-rows
returns-clause-rows g c =
    header_then_rows (map column_of c.args.columns.now) c.args.room c.args.records.now c.read_header.new.records c.add_rows.new.records c.args.rows.now.rows c.add_rows.new.rows.rows c.add_rows.result c.in_ok-read_header.ensures.header c.add_rows.ensures.rows
