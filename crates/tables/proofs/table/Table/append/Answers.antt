use Rattle.std.proofs.Common.{List, [], ◌-◌, length}
use Rattle.tables.specs.Loading.{Fields, appended, load_of}
use Rattle.memory.specs.Gives.{Gives}
use Rattle.tables.specs.declared.TheConstants.{MAX_ROWS}
use Rattle.tables.proofs.Bytes.{unless_failed, unless_failed_known}
use Rattle.tables.proofs.table.Table.append.Goals as goal

pub returns-clause-exact : goal.returns-clause-exact
returns-clause-exact g c =
    let due = load_of c.args.self.now.columns (MAX_ROWS - length c.args.self.now.rows) in
    unless_failed_known c.append_records.new.records.failure c.append_records.new.records.given c.append_records.result (λ recs. Gives (λ _. c.append_records.new.self.rows) c.append_records.result (appended c.args.self.now.rows (due recs))) _ _ c.new-records.ensures.records c.append_records.ensures.exact c.append_records.ensures.failed (λ recs memory. rw memory tt)

pub returns-clause-some_records : goal.returns-clause-some_records
returns-clause-some_records g c =
    let due = load_of c.args.self.now.columns (MAX_ROWS - length c.args.self.now.rows) in
    unless_failed c.append_records.new.records.failure c.append_records.new.records.given c.append_records.result ((recs : List Fields) × Gives (λ _. c.append_records.new.self.rows) c.append_records.result (appended c.args.self.now.rows (due recs))) (λ none. let s = c.append_records.ensures.some_records none in (s.0, s.1)) c.append_records.ensures.failed (λ memory. ([], rw memory tt))
