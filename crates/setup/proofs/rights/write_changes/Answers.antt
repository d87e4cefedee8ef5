use Rattle.replies.specs.ReplyText.{reply_text}
use Rattle.engine.proofs.Due.{due_sent}
use Rattle.setup.proofs.SentChanges.{agrees, is_reply, sent_changes}
use Rattle.setup.proofs.rights.write_changes.Goals as goal

pub returns : goal.returns
returns g c =
    let h = c.changes-changes.ensures in
    let s = c.write_answer-status.ensures.sent in
    let due = due_sent reply_text _ _ (is_reply _ _ _ _ h) s in
    rw c.status_after.ensures (record { sent = sent_changes _ _ _ _ (agrees reply_text _ _ _ _ _ h s) due })
