use Rattle.std.proofs.Common.{ap, drop, length, Ok, ◌+◌, ◌<◌, ◌∙◌, arith}
use Rattle.tuples.specs.Combinations.{joined_cells}
use Rattle.tuples.specs.View.{world_of}
use Rattle.tuples.specs.World.{combination_at}
use Rattle.row_marks.specs.Marks.{exprs_of, seen_of}
use Rattle.row_marks.proofs.Marking.{marked_at, marked_set, next_expr, same_exprs, same_length, same_set}
use Rattle.report.proofs.KeptConditions.{dropped_by, failed_by, kept_on}
use Rattle.report.proofs.conditions.keeps_combination.Goals as goal

pub loop-index-preserved : goal.loop-index-preserved
loop-index-preserved g c =
    let w = world_of c.args.world.now in
    let cells = joined_cells (combination_at w.tables c.args.combination.now) in
    let ms = c.loop-index.conditions.items in
    let es = exprs_of c.args.conditions.now.items in
    let i = c.loop-index.index in
    let old = c.index_mut.result.now in
    let new = c.is_true_on.new.condition in
    let count = same_length (λ m. seen_of m) ms c.args.conditions.now.items c.loop-index.invariant.seen in
    let lt : i < length ms = omega (arith, c.loop-index-test.true, c.len-index-end.ensures, c.args.conditions.now.ok.0, count) in
    let here = next_expr ms es i old lt c.index_mut.ensures.value (same_exprs ms c.args.conditions.now.items c.loop-index.invariant.seen) in
    record {
      seen = same_set (λ m. seen_of m) ms i old new c.index_mut.ensures.value c.is_true_on.ensures.seen ∙ c.loop-index.invariant.seen;
      marked = λ are. marked_set w ms i old new c.index_mut.ensures.value c.is_true_on.ensures.marked (c.loop-index.invariant.marked are);
      value = λ are. kept_on cells w.role es (drop (i + 1) es) (seen_of old).0 (drop i es) here (c.loop-index.invariant.value are)
          (c.in-Ok-true.ensures.value (marked_at w ms i old lt c.index_mut.ensures.value (c.loop-index.invariant.marked are)) ∙ ap Ok c.in-Ok-true.field-0-test);
    }

pub returns-in-Ok-false-clause-value : goal.returns-in-Ok-false-clause-value
returns-in-Ok-false-clause-value g c = λ are.
    let w = world_of c.args.world.now in
    let cells = joined_cells (combination_at w.tables c.args.combination.now) in
    let ms = c.loop-index.conditions.items in
    let es = exprs_of c.args.conditions.now.items in
    let i = c.loop-index.index in
    let old = c.index_mut.result.now in
    let count = same_length (λ m. seen_of m) ms c.args.conditions.now.items c.loop-index.invariant.seen in
    let lt : i < length ms = omega (arith, c.loop-index-test.true, c.len-index-end.ensures, c.args.conditions.now.ok.0, count) in
    let here = next_expr ms es i old lt c.index_mut.ensures.value (same_exprs ms c.args.conditions.now.items c.loop-index.invariant.seen) in
    dropped_by cells w.role es (drop (i + 1) es) (seen_of old).0 (drop i es) here (c.loop-index.invariant.value are)
    (c.in-Ok-false.ensures.value (marked_at w ms i old lt c.index_mut.ensures.value (c.loop-index.invariant.marked are)) ∙ ap Ok c.in-Ok-false.field-0-test)

pub returns-in-Ok-false-clause-seen : goal.returns-in-Ok-false-clause-seen
returns-in-Ok-false-clause-seen g c =
    same_set (λ m. seen_of m) c.loop-index.conditions.items c.loop-index.index c.index_mut.result.now c.is_true_on.new.condition c.index_mut.ensures.value c.is_true_on.ensures.seen ∙ c.loop-index.invariant.seen

pub returns-in-Ok-false-clause-marked : goal.returns-in-Ok-false-clause-marked
returns-in-Ok-false-clause-marked g c = λ are.
    marked_set (world_of c.args.world.now) c.loop-index.conditions.items c.loop-index.index c.index_mut.result.now c.is_true_on.new.condition c.index_mut.ensures.value c.is_true_on.ensures.marked (c.loop-index.invariant.marked are)

pub returns-in-Err-clause-value : goal.returns-in-Err-clause-value
returns-in-Err-clause-value g c = λ are.
    let w = world_of c.args.world.now in
    let cells = joined_cells (combination_at w.tables c.args.combination.now) in
    let ms = c.loop-index.conditions.items in
    let es = exprs_of c.args.conditions.now.items in
    let i = c.loop-index.index in
    let old = c.index_mut.result.now in
    let count = same_length (λ m. seen_of m) ms c.args.conditions.now.items c.loop-index.invariant.seen in
    let lt : i < length ms = omega (arith, c.loop-index-test.true, c.len-index-end.ensures, c.args.conditions.now.ok.0, count) in
    let here = next_expr ms es i old lt c.index_mut.ensures.value (same_exprs ms c.args.conditions.now.items c.loop-index.invariant.seen) in
    failed_by cells w.role es (drop (i + 1) es) (seen_of old).0 (drop i es) here (c.loop-index.invariant.value are) c.in-Err.failure
    (c.in-Err.ensures.value (marked_at w ms i old lt c.index_mut.ensures.value (c.loop-index.invariant.marked are)))

pub returns-in-Err-clause-seen : goal.returns-in-Err-clause-seen
returns-in-Err-clause-seen g c =
    same_set (λ m. seen_of m) c.loop-index.conditions.items c.loop-index.index c.index_mut.result.now c.is_true_on.new.condition c.index_mut.ensures.value c.is_true_on.ensures.seen ∙ c.loop-index.invariant.seen

pub returns-in-Err-clause-marked : goal.returns-in-Err-clause-marked
returns-in-Err-clause-marked g c = λ are.
    marked_set (world_of c.args.world.now) c.loop-index.conditions.items c.loop-index.index c.index_mut.result.now c.is_true_on.new.condition c.index_mut.ensures.value c.is_true_on.ensures.marked (c.loop-index.invariant.marked are)
