use Rattle.plan_laws.proofs.AdmittedSaid.{admitted_lefts_said, admitted_said}
use Rattle.plan_laws.proofs.laws.law_admitted_are_said.Goals as goal

pub returns-clause-conjuncts : goal.returns-clause-conjuncts
returns-clause-conjuncts c = admitted_said

pub returns-clause-lefts : goal.returns-clause-lefts
returns-clause-lefts c = admitted_lefts_said
