-- The view of the Rust type of replies as spec data.
use Rattle.replies.specs.View as engine
use Rattle.sessions.specs.declared.reply.Reply as declared
use Rattle.sessions.specs.declared.reply.Reply.TheVariants as reply
use Rattle.sessions.specs.Reply.{Reply, Engine, Done, Session, Data}

abbrev pub reply_of : {A : Type 0} → declared.Reply A → Reply
reply_of (reply.Engine r) = Engine (engine.reply_of r)
reply_of reply.Done = Done
reply_of (reply.Session number) = Session number
reply_of (reply.Data table column error) = Data table column error
