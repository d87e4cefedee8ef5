-- The views of the Rust type of replies as spec data.
use Rattle.replies.specs.Reply.{Reply, Refused, Denied, Faulted, Rows}
use Rattle.replies.specs.declared.reply.Reply as declared
use Rattle.replies.specs.declared.reply.Reply.TheVariants as reply

abbrev pub reply_of : {A : Type 0} → declared.Reply A → Reply
reply_of (reply.Refused code offset) = Refused code offset
reply_of (reply.Denied column table) = Denied column table
reply_of (reply.Faulted fault) = Faulted fault
reply_of (reply.Rows headings rows) = Rows headings rows.rows
