use Rattle.std.proofs.Common.{map, Ok, ap, sym, ◌∙◌, arith}
use Rattle.std.proofs.lemmas.List.{append-nil, at_drop_all}
use Rattle.std.proofs.lemmas.Result.{err_from_is_err_and}
use Rattle.groups.specs.Members.{all_of}
use Rattle.groups.proofs.Walks.{next}
use Rattle.row_marks.specs.Marks.{outcome_in}
use Rattle.report.specs.Pushed.{values_after}
use Rattle.report.proofs.Pushing.{fails_here, pushed_one}
use Rattle.report.proofs.ungrouped.push_items.Goals as goal

pub returns-in_err-push_item-clause-values : goal.returns-in_err-push_item-clause-values
returns-in_err-push_item-clause-values g c =
    let first = next c.args.items.now c.loop-item.item-index c.item-item.result c.loop-item-test.true c.item-item.is in
    let fails = fails_here _ c.loop-item.rows.unfinished _ _ _ _ c.in_err-push_item.ensures.value (ap (λ l. all_of (map (λ m. outcome_in (g.R.Row.cells c.args.row.now) c.args.role.now c.args.combination.now m) l)) first) c.loop-item.invariant.values in
    let p = err_from_is_err_and c.from_residual.result c.from_residual.ensures.1 in
    rw (p.1, p.2) fails

pub loop-item-preserved : goal.loop-item-preserved
loop-item-preserved g c =
    let first = next c.args.items.now c.loop-item.item-index c.item-item.result c.loop-item-test.true c.item-item.is in record {
      rows = c.push_item.ensures.rows ∙ c.loop-item.invariant.rows;
      values = pushed_one c.loop-item.rows.unfinished _ _ _ _ _ c.in_ok-push_item.ensures.value (ap (λ l. all_of (map (λ m. outcome_in (g.R.Row.cells c.args.row.now) c.args.role.now c.args.combination.now m) l)) first) c.loop-item.invariant.values;
    }

pub returns-clause-values : goal.returns-clause-values
returns-clause-values g c =
    sym c.loop-item.invariant.values ∙ at_drop_all (λ l. values_after c.loop-item.rows.unfinished (all_of (map (λ m. outcome_in (g.R.Row.cells c.args.row.now) c.args.role.now c.args.combination.now m) l))) c.args.items.now c.loop-item.item-index (omega arith) ∙ ap Ok (append-nil _)
