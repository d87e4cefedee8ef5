use Rattle.std.proofs.Common.{sym, ◌∙◌}
use Rattle.csv_records.specs.Machine.{state_of}
use Rattle.csv_records.proofs.MachineFacts.{goes_on, record_ends, text_ends}
use Rattle.csv_records.proofs.copied.Copied.read.Goals as goal

pub returns-in_default-clause-takes : goal.returns-in_default-clause-takes
returns-in_default-clause-takes g c =
    text_ends (state_of c.loop.place) c.in_ok-end.field-0 c.loop.self.fields c.end.new.self.fields c.loop.self.field c.args.unread.now.left c.loop.unread.left c.next.new.self.left
    c.loop.invariant (rw c.in_default.is at c.in_ok-byte.ensures.takes) c.in_ok-end.ensures.end c.in_ok-end.ensures.fields

pub returns-then-branch-clause-takes : goal.returns-then-branch-clause-takes
returns-then-branch-clause-takes g c =
    record_ends c.loop.place c.step-next.result.0 c.step-next.result.1 c.in-Some.byte c.loop.self.fields c.take.new.self.fields c.loop.self.field c.args.unread.now.left c.loop.unread.left c.next.new.self.left
    c.loop.invariant (rw c.in-Some.is at c.in_ok-byte.ensures.takes) c.step-next.ensures (sym c.in_ok-take.ensures.end ∙ c.if-branch.true) c.in_ok-take.ensures.fields

pub loop-preserved : goal.loop-preserved
loop-preserved g c =
    goes_on c.loop.place c.step-next.result.0 c.step-next.result.1 c.in-Some.byte c.loop.self.fields c.take.new.self.fields c.loop.self.field c.take.new.self.field c.args.unread.now.left c.loop.unread.left c.next.new.self.left
    c.loop.invariant (rw c.in-Some.is at c.in_ok-byte.ensures.takes) c.step-next.ensures (sym c.in_ok-take.ensures.end ∙ c.if-branch.false) c.in_ok-take.ensures.fields c.in_ok-take.ensures.field
