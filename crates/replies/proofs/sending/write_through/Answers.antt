use Rattle.std.proofs.lemmas.List.{append-nil}
use Rattle.replies.specs.ReplyText.{reply_text}
use Rattle.replies.specs.View.{reply_of}
use Rattle.replies.proofs.Puts.{after, all_out, not_out, then}
use Rattle.replies.proofs.sending.write_through.Goals as goal

pub returns-in_err-drain : goal.returns-in_err-drain
returns-in_err-drain g c =
    let due = reply_text (reply_of c.args.reply.now) in
    let r = c.from_residual-in_err-drain in
    not_out r.result r.ensures.0 (after c.in_ok-put_reply.ensures c.in_err-drain.ensures.puts due (append-nil due)) c.requires

pub returns : goal.returns
returns g c =
    let due = reply_text (reply_of c.args.reply.now) in
    let d = c.in_ok-drain.ensures in all_out (then c.in_ok-put_reply.ensures d.puts due (append-nil due)) c.requires d.empty
