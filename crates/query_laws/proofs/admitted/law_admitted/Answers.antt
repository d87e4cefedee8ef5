use Rattle.query_laws.proofs.Granted.{named_are_granted, tables_are_granted}
use Rattle.query_laws.proofs.Placed.{aggregates_are_placed}
use Rattle.query_laws.proofs.Typed.{admitted_are_typed}
use Rattle.query_laws.proofs.admitted.law_admitted.Goals as goal

pub returns-clause-granted : goal.returns-clause-granted
returns-clause-granted c = named_are_granted

pub returns-clause-tables : goal.returns-clause-tables
returns-clause-tables c = tables_are_granted

pub returns-clause-placed : goal.returns-clause-placed
returns-clause-placed c = aggregates_are_placed

pub returns-clause-typed : goal.returns-clause-typed
returns-clause-typed c = admitted_are_typed
