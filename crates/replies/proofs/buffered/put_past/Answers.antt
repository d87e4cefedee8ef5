use Rattle.std.proofs.Common.{refl}
use Rattle.replies.proofs.Puts.{after, broken, failed, then, written}
use Rattle.replies.proofs.buffered.put_past.Goals as goal

pub returns-in_err-write_whole : goal.returns-in_err-write_whole
returns-in_err-write_whole g c =
    let r = c.from_residual-in_err-write_whole in
    let s = c.in_err-write_whole.ensures in
    let d = c.in_ok-drain.ensures in
    failed c.drain.new.buffer.items r.result r.ensures.0 (after d.puts (broken c.drain.new.buffer.items c.args.bytes.now d.empty s.1 s.0) c.args.bytes.now refl)

pub returns-then-bytes-capacity : goal.returns-then-bytes-capacity
returns-then-bytes-capacity g c =
    let s = c.in_ok-write_whole.ensures in let d = c.in_ok-drain.ensures in then d.puts (written c.drain.new.buffer.items c.args.bytes.now d.empty s.0 s.1) c.args.bytes.now refl
