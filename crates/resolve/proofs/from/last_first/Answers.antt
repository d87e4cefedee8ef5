use Rattle.resolve.specs.View.{joined_table_of}
use Rattle.resolve.proofs.LeftTables.{last_viewed}
use Rattle.resolve.proofs.from.last_first.Goals as goal

pub returns-in-Some : goal.returns-in-Some
returns-in-Some g c = let at = c.in-Some.ensures.item.3 in last_viewed (λ j. joined_table_of j) c.args.tables.now c.in-Some.last.now at.0 (at.1 c.in-Some.last.now)
