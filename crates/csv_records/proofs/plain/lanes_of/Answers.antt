use Rattle.csv_records.proofs.BlockFacts.{lanes_compared}
use Rattle.csv_records.proofs.plain.lanes_of.Goals as goal

pub returns : goal.returns
returns c =
    let lanes = lanes_compared c.args.block c.args.byte c.fits-block.0 in
    record { long = lanes.long; each = lanes.each }
