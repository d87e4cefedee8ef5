use Rattle.replies.specs.ReplyText.{reply_text}
use Rattle.store.specs.Database.{rows_of}
use Rattle.engine.proofs.Due.{due_sent, other_whole}
use Rattle.engine.proofs.HiddenRows.{same_reply}
use Rattle.engine.proofs.Readable.{same_to_readers}
use Rattle.engine.proofs.writing.serve.Goals as goal

pub returns-clause-sent : goal.returns-clause-sent
returns-clause-sent g c = due_sent reply_text _ _ c.ask-reply.ensures.reply c.write_answer.ensures.sent

pub returns-clause-hidden : goal.returns-clause-hidden
returns-clause-hidden g c = λ other same. other_whole _ _ (same_reply c.args.store.now.catalog c.args.role.now c.args.text.now (rows_of c.args.store.now) other same) (returns-clause-sent g c)

pub returns-clause-ungranted : goal.returns-clause-ungranted
returns-clause-ungranted g c = λ other same. other_whole _ _ (same_to_readers c.args.store.now.catalog c.args.role.now c.args.text.now (rows_of c.args.store.now) other same) (returns-clause-sent g c)
