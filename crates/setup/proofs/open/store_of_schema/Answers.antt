use Rattle.setup.proofs.Opens.{schema_stops}
use Rattle.setup.proofs.open.store_of_schema.Goals as goal

pub returns-in-Err-clause-fault : goal.returns-in-Err-clause-fault
returns-in-Err-clause-fault g c = rw c.schema_fault.ensures (schema_stops _ c.args.schema.now c.in-Err.error (rw c.in_ok-store.ensures at c.in-Err.ensures.applied))
