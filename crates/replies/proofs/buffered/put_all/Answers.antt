use Rattle.replies.proofs.Puts.{failed, one_on, put_more, put_stopped}
use Rattle.replies.proofs.buffered.put_all.Goals as goal

pub returns-in_err-put : goal.returns-in_err-put
returns-in_err-put g c =
    let next = one_on (λ t. t.now) c.args.texts.now c.loop-text.text-index _ c.as_bytes.result.now c.loop-text-test.true c.as_bytes.ensures.value in
    failed c.put.new.buffer.items c.from_residual.result c.from_residual.ensures.0 (put_stopped c.loop-text.invariant c.in_err-put.ensures _ next)

pub loop-text-preserved : goal.loop-text-preserved
loop-text-preserved g c =
    put_more c.loop-text.invariant c.in_ok-put.ensures _ (one_on (λ t. t.now) c.args.texts.now c.loop-text.text-index _ c.as_bytes.result.now c.loop-text-test.true c.as_bytes.ensures.value)
