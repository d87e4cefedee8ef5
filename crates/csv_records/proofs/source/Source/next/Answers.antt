use Rattle.std.proofs.Common.{ap}
use Rattle.csv_records.specs.Fields.{fields_from}
use Rattle.csv_records.specs.Held.{bytes_left}
use Rattle.csv_records.proofs.SourceFacts.{seen_copied, seen_plain}
use Rattle.csv_records.proofs.source.Source.next.Goals as goal

pub returns-in-Some-clause-takes : goal.returns-in-Some-clause-takes
returns-in-Some-clause-takes g c =
    let old = c.self.inside in
    seen_plain c.args.self.now.records (bytes_left old.started old.line) old.unread.left c.pass_last.new.unread.left c.find_plain.new.unread.left c.in-Some.count (fields_from c.find_plain.new.unread.held 0 c.find_plain.new.ends.items)
    (ap (λ s. s.records) c.self.view_is) c.in_ok-pass_last.ensures.left c.in_ok-count.ensures.same (rw c.in-Some.is at c.in_ok-count.ensures.record)

pub returns-clause-takes : goal.returns-clause-takes
returns-clause-takes g c =
    let old = c.self.inside in
    seen_copied c.args.self.now.records (bytes_left old.started old.line) old.unread.left c.pass_last.new.unread.left c.find_plain.new.unread.left c.read.new.unread.left c.in_ok-found.found c.read.new.self.fields
    (ap (λ s. s.records) c.self.view_is) c.in_ok-pass_last.ensures.left c.in_ok-count.ensures.same c.in_ok-found.ensures.takes
