use Rattle.std.proofs.Common.{◌∷◌, ap, arith, refl}
use Rattle.value.specs.Datum.{null}
use Rattle.replies.specs.ReplyText.{field_text}
use Rattle.replies.proofs.Puts.{failed, one_on, put_more, put_none, put_stopped}
use Rattle.replies.proofs.writing.put_further_fields.Goals as goal

pub loop-i-init : goal.loop-i-init
loop-i-init g c = put_none c.args.out.now c.args.buffer.now.items _

pub returns-in_err-put : goal.returns-in_err-put
returns-in_err-put g c =
    let next = one_on (λ e. 44 ∷ field_text e) c.args.row.now c.loop-i.i null _ (omega (arith, c.loop-i-test.true, c.len-i-end.ensures)) refl in
    failed c.put.new.buffer.items c.from_residual.result c.from_residual.ensures.0 (put_stopped c.loop-i.invariant c.in_err-put.ensures _ next)

pub returns-in_err-put_field : goal.returns-in_err-put_field
returns-in_err-put_field g c =
    let next = one_on (λ e. 44 ∷ field_text e) c.args.row.now c.loop-i.i null _ (omega (arith, c.loop-i-test.true, c.len-i-end.ensures)) (ap (λ d. 44 ∷ field_text d) c.get.ensures) in
    let r = c.from_residual-in_err-put_field in
    failed c.put_field.new.buffer.items r.result r.ensures.0 (put_stopped (put_more c.loop-i.invariant c.in_ok-put.ensures _ next) c.in_err-put_field.ensures _ refl)

pub loop-i-preserved : goal.loop-i-preserved
loop-i-preserved g c =
    let next = one_on (λ e. 44 ∷ field_text e) c.args.row.now c.loop-i.i null _ (omega (arith, c.loop-i-test.true, c.len-i-end.ensures)) (ap (λ d. 44 ∷ field_text d) c.get.ensures) in
    put_more (put_more c.loop-i.invariant c.in_ok-put.ensures _ next) c.in_ok-put_field.ensures _ refl
