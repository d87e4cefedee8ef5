use Rattle.group_laws.proofs.GroupValues.{group_gives, having_gives, items_give}
use Rattle.group_laws.proofs.laws.law_group_values.Goals as goal

pub returns-clause-values : goal.returns-clause-values
returns-clause-values c = λ database role text b groups x t are typed within. group_gives c.law_aggregates_have_offsets.ensures.values database role text b groups are x t typed within

pub returns-clause-items : goal.returns-clause-items
returns-clause-items c = items_give c.law_aggregates_have_offsets.ensures.values

pub returns-clause-having : goal.returns-clause-having
returns-clause-having c = having_gives c.law_aggregates_have_offsets.ensures.values
