use Rattle.catalog.proofs.NoLoop.{no_loop}
use Rattle.catalog.proofs.laws.law_no_loop.Goals as goal

pub returns : goal.returns
returns c = no_loop
