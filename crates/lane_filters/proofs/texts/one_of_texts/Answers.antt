use Rattle.std.proofs.Common.{◌≡◌, ◌-◌, ◌&&◌, [], false, is_some, length, map, drop, sym, ap, ap₂, ◌∙◌, arith}
use Rattle.std.specs.Simd.Lanes.{zip2}
use Rattle.std.proofs.Math.ListN.{drop_of_length-le}
use Rattle.std.proofs.lemmas.List.{length-map}
use Rattle.value.specs.Datum.{datum, text}
use Rattle.value.specs.Orders.{equal_of}
use Rattle.value.specs.Truths.{greatest}
use Rattle.eval.specs.Operators.{in_of}
use Rattle.lane_filters.specs.ByLanes.{are_texts, is_text_value}
use Rattle.lane_filters.proofs.Equality.{no_value, not_each, one_more_value, value_step}
use Rattle.lane_filters.proofs.texts.one_of_texts.Goals as goal

pub loop-left-init : goal.loop-left-init
loop-left-init g c =
    let values = c.args.values.now in
    let cells = c.args.column.now in
    let none : drop (length values) values ≡ [] = drop_of_length-le values (omega arith) in
    record {
      within = omega arith;
      exact = ap (λ l. are_texts (map datum l)) none;
      known = c.in_ok-known.ensures ∙ no_value cells c.len.result c.len.ensures ∙ ap (λ l. map (λ d. in_of d (map datum l)) cells) (sym none);
    }

pub returns-in_default-clause-exact : goal.returns-in_default-clause-exact
returns-in_default-clause-exact g c =
    let fails : is_text_value (datum c.index-values-left.result) ≡ false = sym c.text_of.ensures.exact ∙ ap is_some c.in_default.is in
    sym (not_each datum is_text_value c.args.values.now (c.loop-left.left - 1) c.index-values-left.result (omega (arith, c.loop-left-test.true, c.loop-left.invariant.within)) c.index-values-left.is fails)

pub or-requires : goal.or-requires
or-requires g c =
    let cells = c.args.column.now in
    ap length c.loop-left.invariant.known
    ∙ length-map cells (λ d. in_of d (map datum (drop c.loop-left.left c.args.values.now)))
    ∙ sym (ap length c.in_ok-truths.ensures ∙ length-map cells (λ d. equal_of d (text c.in-Some.text.now)))

pub loop-left-preserved : goal.loop-left-preserved
loop-left-preserved g c =
    let values = c.args.values.now in
    let cells = c.args.column.now in
    let left = c.loop-left.left in
    let v = c.index-values-left.result in
    let step = value_step datum values left v c.loop-left-test.true c.loop-left.invariant.within c.index-values-left.is in
    let is : datum v ≡ text c.in-Some.text.now = rw c.in-Some.is at c.text_of.ensures.text in
    let there = sym c.text_of.ensures.exact ∙ ap is_some c.in-Some.is in
    record {
      within = omega (arith, c.loop-left.invariant.within);
      exact = ap are_texts step ∙ ap₂ ◌&&◌ there c.loop-left.invariant.exact;
      known =
          c.or.ensures
          ∙ ap₂ (zip2 greatest) (c.in_ok-truths.ensures ∙ ap (λ x. map (λ d. equal_of d x) cells) (sym is)) c.loop-left.invariant.known
          ∙ one_more_value cells (datum v) (map datum (drop left values))
          ∙ ap (λ vs. map (λ d. in_of d vs) cells) (sym step);
    }
