use Rattle.tables.proofs.Follow.{unread}
use Rattle.tables.proofs.load.next_record.Goals as goal

pub returns-in-Err-clause-refuses : goal.returns-in-Err-clause-refuses
returns-in-Err-clause-refuses g c = rw c.reported.ensures (unread c.args.row c.args.records.now c.read.new.self c.in-Err.error c.in-Err.ensures.keeps c.in-Err.ensures.uneven)
