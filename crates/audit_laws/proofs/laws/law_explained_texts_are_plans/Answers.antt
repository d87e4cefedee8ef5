use Rattle.audit_laws.proofs.ExplainedPlans.{explained_are_plans}
use Rattle.audit_laws.proofs.laws.law_explained_texts_are_plans.Goals as goal

pub returns : goal.returns
returns c = explained_are_plans c.law_best_is_there.ensures c.law_queries_have_tables.ensures
