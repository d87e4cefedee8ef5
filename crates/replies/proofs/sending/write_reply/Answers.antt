use Rattle.std.proofs.Common.{refl, subst}
use Rattle.output.proofs.Sending.{line_sent}
use Rattle.output.specs.Sent.{IsSent}
use Rattle.replies.specs.Reply.{no_memory, reply_status}
use Rattle.replies.specs.ReplyText.{reply_text}
use Rattle.replies.specs.View.{reply_of}
use Rattle.replies.proofs.sending.write_reply.Goals as goal

pub returns-in-Err-OutOfMemory : goal.returns-in-Err-OutOfMemory
returns-in-Err-OutOfMemory g c =
    let s = c.send.ensures in
    let due = reply_of c.args.reply.now in
    let same = rw c.in-Err-OutOfMemory.field-0-is at c.in-Err-OutOfMemory.ensures.memory in record {
      sent = subst (λ w. IsSent (g.W.Out.taken w) (g.W.Out.taken c.send.new.out) (g.W.Out.failures w) (g.W.Out.failures c.send.new.out) c.send.result (reply_status due) (reply_text due) (reply_text no_memory)) (same refl)
          (line_sent s.whole s.failed s.fine s.beginning c.as_slice.ensures refl);
    }
