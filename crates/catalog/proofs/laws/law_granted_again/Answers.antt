use Rattle.catalog.proofs.Grants.{granted_again, is_granted}
use Rattle.catalog.proofs.laws.law_granted_again.Goals as goal

pub returns-clause-granted : goal.returns-clause-granted
returns-clause-granted c = is_granted

pub returns-clause-again : goal.returns-clause-again
returns-clause-again c = granted_again
