use Rattle.csv_records.proofs.SourceFacts.{plain_left}
use Rattle.csv_records.proofs.source.find_plain.Goals as goal

pub returns-in-Some-clause-record : goal.returns-in-Some-clause-record
returns-in-Some-clause-record g c =
    plain_left c.held-2.result.now c.pass.new.self.held c.plain_record.new.ends.items c.in-Some.count c.pass.new.self.left c.held-2.ensures.held (rw c.in-Some.is at c.in_ok-count.ensures) c.held-2.ensures.left
