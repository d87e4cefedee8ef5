use Rattle.query_laws.proofs.InOrder.{arms_in_order, entries_in_order, members_in_order, ons_in_order}
use Rattle.query_laws.proofs.binding.law_bound_in_order.Goals as goal

pub returns-clause-members : goal.returns-clause-members
returns-clause-members c = members_in_order

pub returns-clause-arms : goal.returns-clause-arms
returns-clause-arms c = arms_in_order

pub returns-clause-ons : goal.returns-clause-ons
returns-clause-ons c = ons_in_order

pub returns-clause-entries : goal.returns-clause-entries
returns-clause-entries c = entries_in_order
