use Rattle.audit_laws.proofs.AcceptedPlans.{accepted_are_right}
use Rattle.audit_laws.proofs.laws.law_accepted_plans_are_right.Goals as goal

pub returns : goal.returns
returns c =
    accepted_are_right c.law_written_means.ensures c.law_shapes_mean_same.ensures c.law_well_formed.ensures.guards c.law_queries_have_tables.ensures c.law_order_of_combinations.ensures
