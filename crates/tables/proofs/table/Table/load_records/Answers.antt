use Rattle.std.proofs.Common.{◌∙◌, map}
use Rattle.std.proofs.lemmas.Result.{IfOk-from_err}
use Rattle.value.specs.Columns.{column_of}
use Rattle.tables.specs.declared.TheConstants.{MAX_ROWS}
use Rattle.tables.specs.Loading.{TableRows, load_of}
use Rattle.tables.proofs.Follow.{exit_failed, none_failed, not_failed}
use Rattle.tables.proofs.Appends.{first_loaded_known, first_loaded_some, first_refused_known, first_refused_some, first_refused_stops, memory_known, memory_some, memory_stops, no_stop}
use Rattle.tables.proofs.table.Table.load_records.Goals as goal

pub append_records-requires-clause-expected : goal.append_records-requires-clause-expected
append_records-requires-clause-expected g c = c.requires.expected

pub append_records-requires-clause-given : goal.append_records-requires-clause-given
append_records-requires-clause-given g c = c.requires.given

pub append_records-requires-clause-fresh : goal.append_records-requires-clause-fresh
append_records-requires-clause-fresh g c = c.requires.fresh

pub returns-in_err-append_records-clause-columns : goal.returns-in_err-append_records-clause-columns
returns-in_err-append_records-clause-columns g c = IfOk-from_err c.from_residual-in_err-append_records.result _ c.from_residual-in_err-append_records.ensures.0

pub returns-in_err-append_records-clause-exact : goal.returns-in_err-append_records-clause-exact
returns-in_err-append_records-clause-exact g c =
    λ none. first_refused_known c.in_ok-table.table.columns (map column_of c.args.columns) c.in_ok-table.table.rows c.in_ok-table.ensures.columns c.in_ok-table.ensures.rows (λ (t : TableRows). t.rows) c.in_err-append_records.field-0.0 c.from_residual-in_err-append_records.result c.from_residual-in_err-append_records.ensures.1 c.args.records.now.records
    (c.in_err-append_records.ensures.exact none)

pub returns-in_err-append_records-clause-some_records : goal.returns-in_err-append_records-clause-some_records
returns-in_err-append_records-clause-some_records g c =
    λ none. first_refused_some c.in_ok-table.table.columns (map column_of c.args.columns) c.in_ok-table.table.rows c.in_ok-table.ensures.columns c.in_ok-table.ensures.rows (λ (t : TableRows). t.rows) c.in_err-append_records.field-0.0 c.from_residual-in_err-append_records.result c.from_residual-in_err-append_records.ensures.1 c.append_records.new.records.given
    (c.in_err-append_records.ensures.some_records none)

pub returns-in_err-append_records-clause-failed : goal.returns-in_err-append_records-clause-failed
returns-in_err-append_records-clause-failed g c = exit_failed _ c.append_records.new.records.failure c.append_records.new.records.given c.from_residual-in_err-append_records.result c.in_err-append_records.field-0.0 c.from_residual-in_err-append_records.ensures.1 c.in_err-append_records.ensures.failed

pub returns-in_err-append_records-clause-stops : goal.returns-in_err-append_records-clause-stops
returns-in_err-append_records-clause-stops g c =
    first_refused_stops c.in_ok-table.table.columns (map column_of c.args.columns) c.in_ok-table.table.rows c.in_ok-table.ensures.columns c.in_ok-table.ensures.rows (λ (t : TableRows). t.rows) c.in_err-append_records.field-0.0 c.from_residual-in_err-append_records.result c.from_residual-in_err-append_records.ensures.1 c.args.records.now.records
    c.in_err-append_records.ensures.stops

pub returns-clause-columns : goal.returns-clause-columns
returns-clause-columns g c = c.in_ok-append_records.ensures.columns ∙ c.in_ok-table.ensures.columns

pub returns-clause-exact : goal.returns-clause-exact
returns-clause-exact g c =
    λ none. first_loaded_known c.in_ok-table.table.columns (map column_of c.args.columns) c.in_ok-table.table.rows c.in_ok-table.ensures.columns c.in_ok-table.ensures.rows c.append_records.new.self.rows c.args.records.now.records (c.in_ok-append_records.ensures.exact none)

pub returns-clause-some_records : goal.returns-clause-some_records
returns-clause-some_records g c =
    λ none. first_loaded_some c.in_ok-table.table.columns (map column_of c.args.columns) c.in_ok-table.table.rows c.in_ok-table.ensures.columns c.in_ok-table.ensures.rows c.append_records.new.self.rows c.append_records.new.records.given (c.in_ok-append_records.ensures.some_records none)

pub returns-clause-failed : goal.returns-clause-failed
returns-clause-failed g c = not_failed _ _ c.append_records.new.records.failure c.append_records.new.records.given c.in_ok-append_records.ensures.failed

pub returns-clause-stops : goal.returns-clause-stops
returns-clause-stops g c = no_stop {X = TableRows} c.append_records.new.self (map column_of c.args.columns) MAX_ROWS c.args.records.now.records

pub returns-in_err-table-clause-columns : goal.returns-in_err-table-clause-columns
returns-in_err-table-clause-columns g c = IfOk-from_err c.from_residual.result _ c.from_residual.ensures.0

pub returns-in_err-table-clause-exact : goal.returns-in_err-table-clause-exact
returns-in_err-table-clause-exact g c = λ _. memory_known c.from_residual.result c.from_residual.ensures.1 (λ (t : TableRows). t.rows) (load_of (map column_of c.args.columns) MAX_ROWS) c.args.records.now.records

pub returns-in_err-table-clause-some_records : goal.returns-in_err-table-clause-some_records
returns-in_err-table-clause-some_records g c = λ _. memory_some c.from_residual.result c.from_residual.ensures.1 (λ (t : TableRows). t.rows) (load_of (map column_of c.args.columns) MAX_ROWS) c.args.records.now.given

pub returns-in_err-table-clause-failed : goal.returns-in_err-table-clause-failed
returns-in_err-table-clause-failed g c = none_failed c.args.records.now.failure _ c.from_residual.result c.requires.fresh

pub returns-in_err-table-clause-stops : goal.returns-in_err-table-clause-stops
returns-in_err-table-clause-stops g c = memory_stops c.from_residual.result c.from_residual.ensures.1 (map column_of c.args.columns) MAX_ROWS c.args.records.now.records
