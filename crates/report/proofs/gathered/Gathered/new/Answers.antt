use Rattle.std.proofs.Common.{rules}
use Rattle.report.proofs.gathered.Gathered.new.Goals as goal

pub returns-else-world : goal.returns-else-world
returns-else-world g c = (search rules, c.new-else-world.ensures _ _)
