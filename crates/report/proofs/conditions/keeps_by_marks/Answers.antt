use Rattle.std.proofs.Common.{ap, Ok, ◌∙◌}
use Rattle.std.proofs.lemmas.Result.{err_from_is_err_and}
use Rattle.groups.proofs.Walks.{next}
use Rattle.tuples.specs.Combinations.{joined_cells}
use Rattle.tuples.specs.View.{world_of}
use Rattle.tuples.specs.World.{combination_at}
use Rattle.row_marks.specs.Marks.{exprs_of}
use Rattle.row_marks.proofs.Marking.{marked_at}
use Rattle.report.proofs.KeptConditions.{dropped_by, failed_by, kept_on}
use Rattle.report.proofs.conditions.keeps_by_marks.Goals as goal

pub loop-condition-preserved : goal.loop-condition-preserved
loop-condition-preserved g c = λ are.
    let w = world_of c.args.world.now in
    let cells = joined_cells (combination_at w.tables c.args.combination.now) in
    let ms = c.args.conditions.now in
    let i = c.loop-condition.condition-index in
    let here = ap (λ l. exprs_of l) (next ms i c.condition-item.result c.loop-condition-test.true c.condition-item.is) in
    let is = marked_at w ms i c.condition-item.result c.loop-condition-test.true c.condition-item.is are in
    kept_on cells w.role (exprs_of ms) _ _ _ here (c.loop-condition.invariant are) (c.in_ok-is_true_by_mark.ensures is ∙ ap Ok c.if-not-branch.false)

pub returns-then-not-branch : goal.returns-then-not-branch
returns-then-not-branch g c = λ are.
    let w = world_of c.args.world.now in
    let cells = joined_cells (combination_at w.tables c.args.combination.now) in
    let ms = c.args.conditions.now in
    let i = c.loop-condition.condition-index in
    let here = ap (λ l. exprs_of l) (next ms i c.condition-item.result c.loop-condition-test.true c.condition-item.is) in
    let is = marked_at w ms i c.condition-item.result c.loop-condition-test.true c.condition-item.is are in
    dropped_by cells w.role (exprs_of ms) _ _ _ here (c.loop-condition.invariant are) (c.in_ok-is_true_by_mark.ensures is ∙ ap Ok c.if-not-branch.true)

pub returns-in_err-is_true_by_mark : goal.returns-in_err-is_true_by_mark
returns-in_err-is_true_by_mark g c = λ are.
    let w = world_of c.args.world.now in
    let cells = joined_cells (combination_at w.tables c.args.combination.now) in
    let ms = c.args.conditions.now in
    let i = c.loop-condition.condition-index in
    let here = ap (λ l. exprs_of l) (next ms i c.condition-item.result c.loop-condition-test.true c.condition-item.is) in
    let is = marked_at w ms i c.condition-item.result c.loop-condition-test.true c.condition-item.is are in
    let p = err_from_is_err_and c.from_residual.result c.from_residual.ensures.1 in
    rw (p.1, p.2) (failed_by cells w.role (exprs_of ms) _ _ _ here (c.loop-condition.invariant are) c.in_err-is_true_by_mark.field-0.0 (c.in_err-is_true_by_mark.ensures is))
