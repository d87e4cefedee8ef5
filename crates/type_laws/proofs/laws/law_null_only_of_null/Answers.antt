use Rattle.type_laws.proofs.Unknowns.{between_unknown, comparison_unknown, equality_unknown, membership_unknown}
use Rattle.type_laws.proofs.laws.law_null_only_of_null.Goals as goal

pub returns-clause-comparison : goal.returns-clause-comparison
returns-clause-comparison c = comparison_unknown

pub returns-clause-equality : goal.returns-clause-equality
returns-clause-equality c = equality_unknown

pub returns-clause-membership : goal.returns-clause-membership
returns-clause-membership c = membership_unknown

pub returns-clause-between : goal.returns-clause-between
returns-clause-between c = between_unknown
