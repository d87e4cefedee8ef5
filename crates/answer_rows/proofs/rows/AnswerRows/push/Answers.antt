use Rattle.std.proofs.Common.{◌≤◌, length, ap, arith, ◌∙◌}
use Rattle.memory.proofs.Cases.{at_err}
use Rattle.answer_rows.specs.View.{values_in}
use Rattle.answer_rows.proofs.Held.{put_all, put_few, put_rows, put_value_last, put_values}
use Rattle.answer_rows.proofs.rows.AnswerRows.push.Goals as goal

pub returns-in_err-push-clause-err : goal.returns-in_err-push-clause-err
returns-in_err-push-clause-err g c =
    let old = c.self.inside in
    let put = c.in_ok-cell.ensures.ok in
    let rows = put_rows _ _ _ _ put old.finished_texts c.self.invariant.few old.cells.items c.self.invariant.texts old.places.items in
    let unfinished = ap (values_in c.put_value.new.texts) c.in_err-push.ensures.items ∙ put_values _ _ _ _ put old.unfinished.items c.self.invariant.unfinished in
    at_err c.from_residual-in_err-push.result (rw (← c.self.view_is) (λ i. record { rows = rows i; unfinished = unfinished i }))

pub invariant_of-self-2 : goal.invariant_of-self-2
invariant_of-self-2 g c =
    let old = c.self.inside in
    let put = c.in_ok-cell.ensures.ok in
    let few : length old.texts ≤ length c.put_value.new.texts = put_few _ _ _ _ put in
    record { few = omega (arith, few, c.self.invariant.few); texts = c.self.invariant.texts; unfinished = put_all _ _ _ _ put old.unfinished.items c.push.new.self.items c.in_ok-push.ensures.items c.self.invariant.unfinished; places = c.self.invariant.places }

pub returns-clause-ok : goal.returns-clause-ok
returns-clause-ok g c =
    let old = c.self.inside in
    let put = c.in_ok-cell.ensures.ok in
    let rows = put_rows _ _ _ _ put old.finished_texts c.self.invariant.few old.cells.items c.self.invariant.texts old.places.items in
    let unfinished = ap (values_in c.put_value.new.texts) c.in_ok-push.ensures.items ∙ put_value_last _ _ _ _ put old.unfinished.items c.self.invariant.unfinished in
    rw (← c.self.view_is) (λ i. record { rows = rows i; unfinished = unfinished i })
