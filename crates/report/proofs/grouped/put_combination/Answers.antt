use Rattle.std.proofs.Common.{OnOk, ap, map, subst, sym, ◌∙◌}
use Rattle.memory.proofs.Cases.{on_ok}
use Rattle.expr.specs.View.{aggregate_calls_of}
use Rattle.tuples.specs.Combinations.{joined_cells}
use Rattle.tuples.specs.View.{world_of}
use Rattle.tuples.specs.World.{combination_at}
use Rattle.groups.specs.Members.{all_of, member_on, with_key}
use Rattle.groups.specs.Taking.{Takes}
use Rattle.row_marks.specs.Marks.{argument_in}
use Rattle.row_marks.proofs.MarkOutcomes.{member_by_marks}
use Rattle.report.specs.QueryStages.{query_aggregates}
use Rattle.report.proofs.Taking.{combination_more}
use Rattle.report.proofs.grouped.put_combination.Goals as goal

pub returns : goal.returns
returns g c = λ these calls_are are args h.
    let w = world_of c.args.world.now in
    let calls = aggregate_calls_of c.args.calls.now in
    let row = combination_at w.tables c.args.combination.now in
    let as_ = c.args.arguments.now in
    let is = member_by_marks w c.args.combination.now as_ are w.query.group_by (query_aggregates w.query) args in
    on_ok c.add.result _ _ (combination_more w.role w.query calls these row c.args.groups.now c.add.new.self calls_are h)
    (subst (λ m. OnOk c.add.result (Takes calls m c.args.groups.now c.add.new.self)) (ap (λ key. with_key key (all_of (map (λ a. argument_in (joined_cells row) w.role c.args.combination.now a) as_))) (rw (c.new-row.ensures, c.as_slice.ensures) at c.in_ok-key.ensures) ∙ is ∙ ap (member_on (joined_cells row) w.role w.query.group_by) (sym calls_are))
    (rw c.new-row.ensures at c.add.ensures.taken))
