use Rattle.rewrite.proofs.Accepting.{plans_accepted, plans_are_short}
use Rattle.rewrite.proofs.laws.law_plans_are_accepted.Goals as goal

pub returns-clause-accepted : goal.returns-clause-accepted
returns-clause-accepted c = plans_accepted

pub returns-clause-short : goal.returns-clause-short
returns-clause-short c = plans_are_short
