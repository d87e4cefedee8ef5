use Rattle.tabular.specs.ReplyTables.{reply_table}
use Rattle.engine.proofs.Due.{due_sent}
use Rattle.setup.proofs.reply_tables.reply_table.Goals as goal

pub returns : goal.returns
returns g c = record { sent = due_sent reply_table _ _ c.ask-reply.ensures.reply c.write_table.ensures.sent }
