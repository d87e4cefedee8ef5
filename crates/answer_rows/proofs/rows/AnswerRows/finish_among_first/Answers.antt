use Rattle.std.proofs.Common.{◌≡◌, false, ap, arith, length, sym, take, ◌∙◌}
use Rattle.std.proofs.lemmas.List.{length-map}
use Rattle.std.proofs.lemmas.Result.{on_ok_weaker}
use Rattle.answer_rows.specs.Growing.{only}
use Rattle.answer_rows.specs.Ordered.{is_before_last}
use Rattle.answer_rows.specs.View.{row_in}
use Rattle.answer_rows.proofs.FirstRows.{first_inserted, first_sorted, first_stay}
use Rattle.answer_rows.proofs.rows.AnswerRows.finish_among_first.Goals as goal

pub returns-then-not-comes_before_last : goal.returns-then-not-comes_before_last
returns-then-not-comes_before_last g c = λ all is.
    let old = c.self.inside in
    let keys = c.args.keys.now in
    let row = c.args.self.now.unfinished in
    let rows = c.args.self.now.rows in
    let as_many = length-map old.places.items (row_in old.texts old.cells.items) in
    let same = ap (λ s. length s.rows) c.self.view_is in
    let after : is_before_last keys row rows ≡ false = sym c.comes_before_last.ensures ∙ c.if-not-comes_before_last.true in
    c.forget_row.ensures ∙ ap only (first_stay keys c.args.n row all rows is (omega (arith, as_many, same, c.len.ensures, c.if-len-n.true)) after)

pub returns : goal.returns
returns g c = λ all is.
    let keys = c.args.keys.now in
    let row = c.args.self.now.unfinished in
    let rows = c.args.self.now.rows in
    let number = c.number_in_order-number.result in
    let put = c.number_in_order-number.ensures.number (first_sorted keys c.args.n all rows is) in
    let inserted = c.in_ok-insert_row.ensures.ok in
    let first = c.truncate.ensures.rows ∙ ap (λ s. take c.args.n s.rows) inserted ∙ first_inserted keys c.args.n number row all rows is put in
    let none = c.truncate.ensures.unfinished ∙ ap (λ s. s.unfinished) inserted in
    on_ok_weaker c.give_back.result (λ same. same ∙ (λ i. record { rows = first i; unfinished = none i })) c.give_back.ensures
