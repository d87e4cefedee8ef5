use Rattle.std.proofs.Common.{◌∙◌, sym, arith}
use Rattle.csv_records.proofs.PlainFacts.{record_ended, scan_starts}
use Rattle.csv_records.proofs.plain.plain_record.Goals as goal

pub loop-at-init : goal.loop-at-init
loop-at-init c = record { within = omega arith; scanned = scan_starts c.args.bytes.now c.clear.new.self.items c.clear.ensures.items }

pub returns-in-Some : goal.returns-in-Some
returns-in-Some c =
    let found = rw c.in-Some.is at c.in_ok-i.ensures in
    record_ended c.args.bytes.now c.scan_block.new.ends.items c.push.new.self.items c.scan_block.new.start c.in-Some.i found.1 found.0 c.if-i-eq0.false (sym c.ends_line.ensures ∙ c.if-not-ends_line.false) c.in_ok-push.ensures.items
