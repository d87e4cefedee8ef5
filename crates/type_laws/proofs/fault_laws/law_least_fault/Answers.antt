use Rattle.type_laws.proofs.Misplacements.{misplaced_is_least}
use Rattle.type_laws.proofs.Mistypings.{mistyped_is_least}
use Rattle.type_laws.proofs.QueryFaults.{query_fault_is_least}
use Rattle.type_laws.proofs.fault_laws.law_least_fault.Goals as goal

pub returns : goal.returns
returns c = record { misplaced = misplaced_is_least; mistyped = mistyped_is_least; query = query_fault_is_least }
