use Rattle.tabular.specs.ReplyTables.{reply_table}
use Rattle.engine.proofs.Due.{due_sent}
use Rattle.setup.proofs.SentChanges.{agrees, is_reply, sent_changes}
use Rattle.setup.proofs.rights.write_changes_table.Goals as goal

pub returns : goal.returns
returns g c =
    let h = c.changes-changes.ensures in
    let s = c.write_table-status.ensures.sent in
    let due = due_sent reply_table _ _ (is_reply _ _ _ _ h) s in
    rw c.status_after.ensures (record { sent = sent_changes _ _ _ _ (agrees reply_table _ _ _ _ _ h s) due })
