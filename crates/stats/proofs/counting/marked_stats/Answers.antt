use Rattle.std.proofs.Common.{ℕ, length, ap, ap₂, ◌∙◌, Option, arith}
use Rattle.std.specs.Ordering.{bool_cmp, int_cmp}
use Rattle.stats.specs.declared.statistics.Bounds.{Bounds}
use Rattle.stats.specs.declared.statistics.ColumnStats.{ColumnStats}
use Rattle.stats.specs.Repeats.{without_repeats}
use Rattle.stats.specs.Statistics.{bounds_of}
use Rattle.stats.specs.Marked.{marked}
use Rattle.stats.proofs.Marked.{marked_few}
use Rattle.stats.proofs.Parts.{distinct_all, distinct_few}
use Rattle.stats.proofs.counting.marked_stats.Goals as goal

pub overflow_add-result : goal.overflow_add-result
overflow_add-result g c =
    let n = c.in_ok-numbers.ensures ∙ ap (λ l. length (without_repeats int_cmp l)) c.in_ok-values.ensures.numbers in
    let t = c.in_ok-values.ensures.texts in
    let b = c.distinct_truths-truths.ensures ∙ ap (λ l. length (without_repeats bool_cmp l)) (c.deref-2.ensures.value ∙ c.in_ok-values.ensures.truths) in
    let sum = distinct_all (marked c.args.marks.now c.args.table.now.rows) c.args.column c.in_ok-numbers.numbers c.in_ok-values.values.distinct_texts c.distinct_truths-truths.result n t b in
    let few = distinct_few (marked c.args.marks.now c.args.table.now.rows) c.args.column in
    let fewer = marked_few c.args.marks.now c.args.table.now.rows in
    omega (arith, sum, few, fewer, c.values_in.ensures.few)

pub overflow_add-result-2 : goal.overflow_add-result-2
overflow_add-result-2 g c =
    let n = c.in_ok-numbers.ensures ∙ ap (λ l. length (without_repeats int_cmp l)) c.in_ok-values.ensures.numbers in
    let t = c.in_ok-values.ensures.texts in
    let b = c.distinct_truths-truths.ensures ∙ ap (λ l. length (without_repeats bool_cmp l)) (c.deref-2.ensures.value ∙ c.in_ok-values.ensures.truths) in
    let sum = distinct_all (marked c.args.marks.now c.args.table.now.rows) c.args.column c.in_ok-numbers.numbers c.in_ok-values.values.distinct_texts c.distinct_truths-truths.result n t b in
    let few = distinct_few (marked c.args.marks.now c.args.table.now.rows) c.args.column in
    let fewer = marked_few c.args.marks.now c.args.table.now.rows in
    omega (arith, sum, few, fewer, c.values_in.ensures.few)

pub returns : goal.returns
returns g c =
    let n = c.in_ok-numbers.ensures ∙ ap (λ l. length (without_repeats int_cmp l)) c.in_ok-values.ensures.numbers in
    let t = c.in_ok-values.ensures.texts in
    let b = c.distinct_truths-truths.ensures ∙ ap (λ l. length (without_repeats bool_cmp l)) (c.deref-2.ensures.value ∙ c.in_ok-values.ensures.truths) in
    let sum = distinct_all (marked c.args.marks.now c.args.table.now.rows) c.args.column c.in_ok-numbers.numbers c.in_ok-values.values.distinct_texts c.distinct_truths-truths.result n t b in
    let stats : ℕ → Option Bounds → ColumnStats = λ distinct bounds. record { distinct = distinct; bounds = bounds } in
    ap₂ stats sum (c.bounds_of-bounds.ensures ∙ ap bounds_of (c.deref.ensures.value ∙ c.in_ok-values.ensures.numbers))
