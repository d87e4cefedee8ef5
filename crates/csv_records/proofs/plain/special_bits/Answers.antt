use Rattle.csv_records.proofs.BlockFacts.{special_bit}
use Rattle.csv_records.proofs.plain.special_bits.Goals as goal

pub returns : goal.returns
returns c =
    special_bit c.args.bytes.now c.args.at c.requires c.lanes_of-commas.result c.lanes_of-quotes.result c.lanes_of-returns.result c.lanes_of-feeds.result
    (record { long = c.lanes_of-commas.ensures.long; each = c.lanes_of-commas.ensures.each })
    (record { long = c.lanes_of-quotes.ensures.long; each = c.lanes_of-quotes.ensures.each })
    (record { long = c.lanes_of-returns.ensures.long; each = c.lanes_of-returns.ensures.each })
    (record { long = c.lanes_of-feeds.ensures.long; each = c.lanes_of-feeds.ensures.each })
