use Rattle.std.proofs.Common.{◌+◌, ap, w64}
use Rattle.std.specs.Int.{trailing_zeros}
use Rattle.csv_records.specs.Records.{ends_line}
use Rattle.csv_records.proofs.BlockFacts.{block_begins, in_block, past_lowest, to_end, to_lowest}
use Rattle.csv_records.proofs.PlainFacts.{byte_joined, field_ended}
use Rattle.csv_records.proofs.plain.scan_block.Goals as goal
use Rattle.csv_records.proofs.plain.scan_block.Goals.{then-byte-eq44+in_ok-push, else-byte-eq44+else-byte-ne34+else-i-start}

pub loop-bits-init : goal.loop-bits-init
loop-bits-init c = block_begins c.args.bytes.now c.args.ends.now.items c.args.start.now c.args.at c.special_bits-bits.result c.requires.scanned c.special_bits-bits.ensures

pub returns-then-byte-ne34 : goal.returns-then-byte-ne34
returns-then-byte-ne34 c =
    let bytes = c.args.bytes.now in
    let l = c.loop-bits in
    (in_block bytes l.ends.items l.start c.args.at l.bits c.requires.room l.invariant c.loop-bits-test.true l.auto.bits-fits.fits, to_lowest bytes l.ends.items l.start c.args.at l.bits c.requires.room l.invariant c.loop-bits-test.true l.auto.bits-fits.fits)

pub loop-bits-preserved : goal.loop-bits-preserved
loop-bits-preserved c =
    let bytes = c.args.bytes.now in
    let l = c.loop-bits in
    let i = c.args.at + trailing_zeros w64 l.bits in
    let here = in_block bytes l.ends.items l.start c.args.at l.bits c.requires.room l.invariant c.loop-bits-test.true l.auto.bits-fits.fits in
    let so = to_lowest bytes l.ends.items l.start c.args.at l.bits c.requires.room l.invariant c.loop-bits-test.true l.auto.bits-fits.fits in
    past_lowest bytes l.ends.items l.start c.args.at l.bits c.requires.room l.invariant c.loop-bits-test.true l.auto.bits-fits.fits c.if-byte-eq44.ends.items c.if-byte-eq44.start
    (elim c.if-byte-eq44.branch [
      | then-byte-eq44+in_ok-push w ↦ rw (w.start-is, w.ends-is) (field_ended bytes l.ends.items w.push.new.self.items l.start i so here w.if-byte-eq44.true w.in_ok-push.ensures.items)
      | else-byte-eq44+else-byte-ne34+else-i-start w ↦ rw (w.start-is, w.ends-is) (byte_joined bytes l.ends.items l.start i so here w.if-byte-eq44.false (ap ends_line w.if-byte-ne34.false) (λ quote. w.if-i-start.false))
    ])

pub returns : goal.returns
returns c = to_end c.args.bytes.now c.loop-bits.ends.items c.loop-bits.start c.args.at c.loop-bits.bits c.requires.room c.loop-bits.invariant c.loop-bits-test.false
