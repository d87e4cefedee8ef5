use Rattle.std.proofs.Common.{[], ◌∙◌, refl, sym}
use Rattle.std.proofs.lemmas.List.{append-nil, take_rest}
use Rattle.replies.proofs.Puts.{failed, put_all, put_more, put_stopped}
use Rattle.replies.proofs.writing.put_doubled.Goals as goal

pub returns-in_err-put : goal.returns-in_err-put
returns-in_err-put g c =
    failed c.put.new.buffer.items c.from_residual.result c.from_residual.ensures.0 (put_stopped c.loop-n.invariant c.in_err-put.ensures _ c.in-Some.ensures.some.2)

pub returns-in_err-put-2 : goal.returns-in_err-put-2
returns-in_err-put-2 g c =
    let r = c.from_residual-in_err-put-2 in
    let p = put_more c.loop-n.invariant c.in_ok-put.ensures _ c.in-Some.ensures.some.2 in
    failed c.put-in-Some.new.buffer.items r.result r.ensures.0 (put_stopped p c.in_err-put-2.ensures _ refl)

pub loop-n-preserved : goal.loop-n-preserved
loop-n-preserved g c = rw take_rest (put_more (put_more c.loop-n.invariant c.in_ok-put.ensures _ c.in-Some.ensures.some.2) c.in_ok-put-2.ensures _ refl)

pub returns-in_err-put-3 : goal.returns-in_err-put-3
returns-in_err-put-3 g c =
    let r = c.from_residual-in_err-put-3 in
    failed c.put-2.new.buffer.items r.result r.ensures.0 (put_stopped c.loop-n.invariant c.in_err-put-3.ensures [] (c.in_default.ensures.none refl ∙ sym (append-nil c.loop-n.rest.now)))

pub returns : goal.returns
returns g c = put_all (put_more c.loop-n.invariant c.in_ok-put-3.ensures [] (c.in_default.ensures.none refl ∙ sym (append-nil c.loop-n.rest.now))) refl
