use Rattle.std.proofs.Common.{◌∙◌, sym}
use Rattle.csv_records.proofs.PlainFacts.{byte_joined, field_ended, record_ended}
use Rattle.csv_records.proofs.plain.rest_of_record.Goals as goal
use Rattle.csv_records.proofs.plain.rest_of_record.Goals.{else-byte-eq34-via-then-byte-eq34+else-i-start, else-byte-eq34-via-else-byte-eq34}

pub loop-i-init : goal.loop-i-init
loop-i-init c = c.requires.scanned

pub loop-i-preserved-then-byte-eq44 : goal.loop-i-preserved-then-byte-eq44
loop-i-preserved-then-byte-eq44 c = field_ended c.args.bytes.now c.loop-i.ends.items c.push.new.self.items c.loop-i.start c.loop-i.i c.loop-i.invariant c.loop-i-test.true c.if-byte-eq44.true c.in_ok-push.ensures.items

pub returns-then-ends_line : goal.returns-then-ends_line
returns-then-ends_line c =
    record_ended c.args.bytes.now c.loop-i.ends.items c.push-then-ends_line.new.self.items c.loop-i.start c.loop-i.i c.loop-i.invariant c.loop-i-test.true c.if-i-eq0.false (sym c.ends_line.ensures ∙ c.if-ends_line.true)
    c.in_ok-push-2.ensures.items

pub loop-i-preserved : goal.loop-i-preserved
loop-i-preserved c =
    byte_joined c.args.bytes.now c.loop-i.ends.items c.loop-i.start c.loop-i.i c.loop-i.invariant c.loop-i-test.true c.if-byte-eq44.false (sym c.ends_line.ensures ∙ c.if-ends_line.false)
    (elim c.else-byte-eq34.branch [ else-byte-eq34-via-then-byte-eq34+else-i-start w ↦ λ _. w.if-i-start.false | else-byte-eq34-via-else-byte-eq34 w ↦ λ quote. absurd (w.if-byte-eq34.false quote) ])
