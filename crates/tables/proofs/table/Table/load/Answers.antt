use Rattle.std.proofs.Common.{List, [], map}
use Rattle.tables.specs.Loading.{Fields, load_of}
use Rattle.memory.specs.Gives.{Gives}
use Rattle.value.specs.Columns.{column_of}
use Rattle.tables.specs.declared.TheConstants.{MAX_ROWS}
use Rattle.tables.proofs.Bytes.{known_of, unless_failed, unless_failed_known}
use Rattle.tables.proofs.table.Table.load.Goals as goal

pub returns-clause-exact : goal.returns-clause-exact
returns-clause-exact g c =
    let due = load_of (map column_of c.args.columns) MAX_ROWS in
    unless_failed_known c.load_records.new.records.failure c.load_records.new.records.given c.load_records.result (λ recs. Gives (λ t. t.rows) c.load_records.result (due recs)) _ _ c.new-records.ensures.records c.load_records.ensures.exact c.load_records.ensures.failed (λ recs memory. rw memory tt)

pub returns-clause-some_records : goal.returns-clause-some_records
returns-clause-some_records g c =
    let due = load_of (map column_of c.args.columns) MAX_ROWS in
    unless_failed c.load_records.new.records.failure c.load_records.new.records.given c.load_records.result ((recs : List Fields) × Gives (λ t. t.rows) c.load_records.result (due recs)) (λ none. let s = c.load_records.ensures.some_records none in (s.0, s.1)) c.load_records.ensures.failed (λ memory. ([], rw memory tt))

pub returns-clause-stops : goal.returns-clause-stops
returns-clause-stops g c = known_of _ _ _ c.new-records.ensures.records c.load_records.ensures.stops
