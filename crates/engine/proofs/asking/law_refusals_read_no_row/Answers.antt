use Rattle.engine.proofs.Admitted.{refusal_is_reply, answered_otherwise}
use Rattle.engine.proofs.asking.law_refusals_read_no_row.Goals as goal

pub returns-clause-refused : goal.returns-clause-refused
returns-clause-refused c = refusal_is_reply

pub returns-clause-otherwise : goal.returns-clause-otherwise
returns-clause-otherwise c = answered_otherwise
