use Rattle.replies.specs.ReplyText.{reply_text}
use Rattle.engine.proofs.Due.{due_sent}
use Rattle.setup.proofs.rights.write_matrix.Goals as goal

pub returns : goal.returns
returns g c = record { sent = due_sent reply_text _ _ c.matrix-reply.ensures c.write_answer.ensures.sent }
