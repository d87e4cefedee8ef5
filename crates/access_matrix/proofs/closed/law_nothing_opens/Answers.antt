use Rattle.access_matrix.proofs.Opened.{nothing_opens}
use Rattle.access_matrix.proofs.closed.law_nothing_opens.Goals as goal

pub returns : goal.returns
returns c = nothing_opens
