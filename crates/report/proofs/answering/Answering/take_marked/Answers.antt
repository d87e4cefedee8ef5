use Rattle.std.proofs.Common.{◌≡◌, Ok, ◌∙◌, ap, true, false}
use Rattle.memory.proofs.Cases.{on_ok}
use Rattle.memory.specs.Gives.{IsFailure}
use Rattle.tuples.specs.World.{combination_at}
use Rattle.report.proofs.Taking.{gathered_in, test_in, took_dropped, took_fault, took_kept}
use Rattle.report.proofs.answering.Answering.take_marked.Goals as goal

pub returns-in-Ok-true : goal.returns-in-Ok-true
returns-in-Ok-true g c = λ w these marks h.
    let s = c.args.self.now in
    let m = c.args.marks.now in
    let is = test_in w s (λ r. r ≡ Ok true) m c.args.combination.now _ marks h (λ are. (rw c.as_slice-conditions.ensures.value at c.in-Ok-true.ensures) are ∙ ap Ok c.in-Ok-true.field-0-test) in
    on_ok c.put.result _ _ (λ gathered. took_kept w s _ (combination_at w.tables c.args.combination.now) h c.put.new.self s.marks h.marks is gathered)
    (gathered_in w s c.put.result c.put.new.self m c.args.combination.now _ h marks (rw c.as_slice-calls.ensures at c.put.ensures))

pub returns-in-Ok-false : goal.returns-in-Ok-false
returns-in-Ok-false g c = λ w these marks h.
    let s = c.args.self.now in
    let m = c.args.marks.now in
    let is = test_in w s (λ r. r ≡ Ok false) m c.args.combination.now _ marks h (λ are. (rw c.as_slice-conditions.ensures.value at c.in-Ok-false.ensures) are ∙ ap Ok c.in-Ok-false.field-0-test) in
    took_dropped w s _ (combination_at w.tables c.args.combination.now) h s.marks h.marks is

pub returns-in-Err : goal.returns-in-Err
returns-in-Err g c = λ w these marks h.
    let s = c.args.self.now in
    let m = c.args.marks.now in
    let is = test_in w s (IsFailure c.in-Err.failed) m c.args.combination.now _ marks h (rw c.as_slice-conditions.ensures.value at c.in-Err.ensures) in
    on_ok c.add.result _ _ (λ adds. took_fault w s _ (combination_at w.tables c.args.combination.now) h c.add.new.self s.marks h.marks c.in-Err.failed is adds) c.add.ensures.added
