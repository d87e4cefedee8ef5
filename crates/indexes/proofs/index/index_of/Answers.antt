use Rattle.std.proofs.Common.{rules, ◌≡◌, ◌++◌, ◌∷◌, [], ◌+◌, ◌-◌, suc, length, sym, ap, ◌∙◌, subst, append-nil, append_assoc, arith, IsPermutation, IsSorted}
use Rattle.std.specs.List.{range_with_len}
use Rattle.std.specs.Ordering.{on}
use Rattle.std.proofs.lemmas.Fn.{always_returns_same}
use Rattle.std.proofs.lemmas.List.Sorted.{ranks_by}
use Rattle.value.specs.Datum.{cell, row_at}
use Rattle.value.specs.Orders.{datum_cmp}
use Rattle.value.proofs.DatumOrder.{datum_cmp_total}
use Rattle.indexes.specs.Indexes.{IsIndex}
use Rattle.indexes.proofs.index.index_of.Goals as goal

pub loop-number-preserved : goal.loop-number-preserved
loop-number-preserved g c =
    let n = c.loop-number.number in
    let end = c.rows-number-end.result in
    let more : end - n ≡ suc (end - (n + 1)) = omega (arith, c.loop-number-test.true) in
    ap (λ l. l ++ range_with_len (n + 1) (end - (n + 1))) c.in_ok-push.ensures.items
    ∙ append_assoc c.loop-number.numbers.items (n ∷ []) (range_with_len (n + 1) (end - (n + 1)))
    ∙ ap (λ k. c.loop-number.numbers.items ++ range_with_len n k) (sym more)
    ∙ c.loop-number.invariant

pub returns : goal.returns
returns g c =
    let n = c.loop-number.number in
    let end = c.rows-number-end.result in
    let rows = c.args.table.now.rows in
    let none : end - n ≡ 0 = omega (arith, c.loop-number-test.false) in
    let all : c.loop-number.numbers.items ≡ range_with_len 0 (length rows) = sym (append-nil c.loop-number.numbers.items) ∙ sym (ap (λ k. c.loop-number.numbers.items ++ range_with_len n k) none) ∙ c.loop-number.invariant ∙ ap (range_with_len 0) c.rows-number-end.ensures.rows in
    let moved = subst (λ l. IsPermutation l c.sort_unstable_by.new.self.items) all c.sort_unstable_by.ensures.permutation in
    let sorted : IsSorted (on (λ n. cell (row_at rows n) c.args.column) datum_cmp) c.sort_unstable_by.new.self.items = c.sort_unstable_by.ensures.sorted _ (ranks_by datum_cmp_total (λ n. cell (row_at rows n) c.args.column)) (always_returns_same _ _ _ (λ a r f' k. search rules)) in
    subst (IsIndex rows c.args.column) (sym c.from.ensures) (moved, sorted)
