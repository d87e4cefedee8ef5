use Rattle.std.proofs.Common.{◌≡◌, ◌++◌, true, false, map, sym, ◌∙◌, arith}
use Rattle.std.specs.Prelude.{option_to_list}
use Rattle.std.specs.Str.{bytes_eq}
use Rattle.std.proofs.lemmas.List.{at_drop_all, at_drop_more}
use Rattle.expr.specs.View.{bound_item_of}
use Rattle.resolve.specs.OrderBy.{one_index, indexes_of}
use Rattle.resolve.proofs.order_by.index_of_heading.Goals.{then-eq+in_default, else-eq}
use Rattle.resolve.proofs.order_by.index_of_heading.Goals as goal

pub returns-in-Some : goal.returns-in-Some
returns-in-Some g c =
    let next = sym (at_drop_more (λ l. one_index c.args.offset (option_to_list c.loop-index.found ++ indexes_of c.args.heading.now c.loop-index.index (map (λ i. bound_item_of i) l))) c.args.items.now c.loop-index.index c.index-items-index.result (omega (arith, c.loop-index-test.true))) ∙ c.loop-index.invariant in
    let same : bytes_eq c.index-items-index.result.heading c.args.heading.now ≡ true = sym (rw (c.if-eq.true, c.as_str.ensures) at c.eq.ensures) in
    rw (← c.index-items-index.is, same, c.in-Some.is) at next

pub loop-index-preserved : goal.loop-index-preserved
loop-index-preserved g c =
    let next = sym (at_drop_more (λ l. one_index c.args.offset (option_to_list c.loop-index.found ++ indexes_of c.args.heading.now c.loop-index.index (map (λ i. bound_item_of i) l))) c.args.items.now c.loop-index.index c.index-items-index.result (omega (arith, c.loop-index-test.true))) ∙ c.loop-index.invariant in
    elim c.if-eq.branch [
      | then-eq+in_default w ↦
          let same : bytes_eq c.index-items-index.result.heading c.args.heading.now ≡ true = sym (rw (w.if-eq.true, c.as_str.ensures) at c.eq.ensures) in
          rw w.found-is (rw (← c.index-items-index.is, same, w.in_default.is) at next)
      | else-eq w ↦
          let other : bytes_eq c.index-items-index.result.heading c.args.heading.now ≡ false = sym (rw (w.if-eq.false, c.as_str.ensures) at c.eq.ensures) in
          rw w.found-is (rw (← c.index-items-index.is, other) at next)
    ]

pub returns-in-Some-found : goal.returns-in-Some-found
returns-in-Some-found g c =
    let over = sym (at_drop_all (λ l. one_index c.args.offset (option_to_list c.loop-index.found ++ indexes_of c.args.heading.now c.loop-index.index (map (λ i. bound_item_of i) l))) c.args.items.now c.loop-index.index (omega (arith, c.loop-index-test.false))) ∙ c.loop-index.invariant in
    rw c.in-Some-found.is at over

pub returns-in-None : goal.returns-in-None
returns-in-None g c =
    let over = sym (at_drop_all (λ l. one_index c.args.offset (option_to_list c.loop-index.found ++ indexes_of c.args.heading.now c.loop-index.index (map (λ i. bound_item_of i) l))) c.args.items.now c.loop-index.index (omega (arith, c.loop-index-test.false))) ∙ c.loop-index.invariant in
    rw c.in-None.is at over
