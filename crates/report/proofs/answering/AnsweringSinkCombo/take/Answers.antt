use Rattle.std.proofs.Common.{◌≡◌, [], ◌∷◌, OnOk, Ok, subst, sym, true, false, ◌∙◌, ap}
use Rattle.std.proofs.lemmas.List.{map-append}
use Rattle.memory.specs.Gives.{IsFailure}
use Rattle.memory.proofs.Cases.{on_ok}
use Rattle.tuples.specs.World.{combination_at}
use Rattle.row_marks.specs.Marks.{AreMarksOf}
use Rattle.row_marks.proofs.Marking.{on_both}
use Rattle.report.specs.Answering.{Took}
use Rattle.report.proofs.Taking.{gathered_in, test_in, tested_in, took_dropped, took_fault, took_kept}
use Rattle.report.proofs.answering.AnsweringSinkCombo.take.Goals as goal

pub returns-in-Ok-true : goal.returns-in-Ok-true
returns-in-Ok-true g c = λ w these h.
    let s = c.args.self.now in
    let cs = c.keeps_combination.new.conditions in
    let tested = tested_in w s cs _ h c.keeps_combination.ensures.seen c.keeps_combination.ensures.marked in
    let is = test_in w s (λ r. r ≡ Ok true) s.marks c.args.combination _ h.marks h (λ are. c.in-Ok-true.ensures.value are ∙ ap Ok c.in-Ok-true.field-0-test) in
    subst (λ l. OnOk c.add.result (Took w (record s { gathered = c.add.new.self; marks = c.add.new.marks }) l)) (sym (map-append (combination_at w.tables) these (c.args.combination ∷ [])))
    (on_both c.add.result (λ gathered marks. took_kept w s _ (combination_at w.tables c.args.combination) h c.add.new.self c.add.new.marks marks is gathered)
    (gathered_in w s c.add.result c.add.new.self (record s.marks { conditions = cs }) c.args.combination _ h tested (rw c.as_slice.ensures at c.add.ensures.taken))
    (subst (λ v. AreMarksOf v (record s.marks { conditions = cs }) → OnOk c.add.result (AreMarksOf v c.add.new.marks)) h.world c.add.ensures.marks tested))

pub returns-in-Ok-false : goal.returns-in-Ok-false
returns-in-Ok-false g c = λ w these h.
    let s = c.args.self.now in
    let cs = c.keeps_combination.new.conditions in
    let tested = tested_in w s cs _ h c.keeps_combination.ensures.seen c.keeps_combination.ensures.marked in
    let is = test_in w s (λ r. r ≡ Ok false) s.marks c.args.combination _ h.marks h (λ are. c.in-Ok-false.ensures.value are ∙ ap Ok c.in-Ok-false.field-0-test) in
    subst (Took w (record s { marks = record s.marks { conditions = cs } })) (sym (map-append (combination_at w.tables) these (c.args.combination ∷ [])))
    (took_dropped w s _ (combination_at w.tables c.args.combination) h (record s.marks { conditions = cs }) tested is)

pub returns : goal.returns
returns g c = λ w these h.
    let s = c.args.self.now in
    let cs = c.keeps_combination.new.conditions in
    let tested = tested_in w s cs _ h c.keeps_combination.ensures.seen c.keeps_combination.ensures.marked in
    let is = test_in w s (IsFailure c.in-Err.failure) s.marks c.args.combination _ h.marks h c.in-Err.ensures.value in
    subst (λ l. OnOk c.add-in-Err.result (Took w (record s { filter = c.add-in-Err.new.self; marks = record s.marks { conditions = cs } }) l)) (sym (map-append (combination_at w.tables) these (c.args.combination ∷ [])))
    (on_ok c.add-in-Err.result _ _ (λ adds. took_fault w s _ (combination_at w.tables c.args.combination) h c.add-in-Err.new.self (record s.marks { conditions = cs }) tested c.in-Err.failure is adds) c.add-in-Err.ensures.added)
