use Rattle.std.proofs.Common.{Ok, inl}
use Rattle.memory.proofs.Cases.{on_ok}
use Rattle.setup.proofs.Tables.{fault_known, if_err, load_known}
use Rattle.setup.proofs.load.load_named.Goals as goal

pub returns-in-Ok-clause-loaded : goal.returns-in-Ok-clause-loaded
returns-in-Ok-clause-loaded g c = on_ok c.load_table.result _ _ (load_known _ _ _ _ _ (Ok tt) c.in-Ok.ensures.bytes) c.load_table.ensures.loaded

pub returns-in-Ok-clause-fault : goal.returns-in-Ok-clause-fault
returns-in-Ok-clause-fault g c = if_err c.load_table.result _ _ (λ f. fault_known _ _ _ _ _ f c.in-Ok.ensures.bytes) c.load_table.ensures.fault

pub returns-in-Err-clause-fault : goal.returns-in-Err-clause-fault
returns-in-Err-clause-fault g c = inl c.in-Err.ensures.fault
