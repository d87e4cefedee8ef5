use Rattle.std.proofs.Common.{subst}
use Rattle.csv_records.specs.Unread.{StartsLeft}
use Rattle.csv_records.proofs.HeldFacts.{starts_left}
use Rattle.csv_records.proofs.unread.Unread.held.Goals as goal

pub returns-clause-left : goal.returns-clause-left
returns-clause-left g c = subst StartsLeft c.self.view_is (starts_left _ (g.R.Read.remaining c.self.inside.rdr))
