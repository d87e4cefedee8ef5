use Rattle.tabular.specs.ReplyTables.{reply_table}
use Rattle.engine.proofs.Due.{due_sent}
use Rattle.setup.proofs.rights.write_matrix_table.Goals as goal

pub returns : goal.returns
returns g c = record { sent = due_sent reply_table _ _ c.matrix-reply.ensures c.write_table.ensures.sent }
