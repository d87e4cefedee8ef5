use Rattle.std.proofs.Common.{List, Bool, map, sym, subst, ◌∙◌}
use Rattle.std.proofs.lemmas.List.{length-map}
use Rattle.value.specs.Datum.{text}
use Rattle.value.specs.Orders.{equal_of}
use Rattle.columns.specs.Bits.{IsMaskOf}
use Rattle.lane_filters.proofs.Equality.{equality_shown}
use Rattle.lane_filters.proofs.Shown.{held, read}
use Rattle.lane_filters.proofs.truths.Truths.of_equal.Goals as goal

pub invariant_of-result : goal.invariant_of-result
invariant_of-result g c =
    let cells = c.args.column.now in
    let t = c.args.text.now in
    let bits = c.words-bits.result.now in
    let missing = c.nulls-missing.result.now in
    held (map (λ d. equal_of d (text t)) cells) _ _ bits missing c.len.result c.in_ok-trues.ensures c.in_ok-nulls.ensures (c.len.ensures ∙ sym (length-map cells (λ d. equal_of d (text t))))
    (equality_shown cells t bits missing (subst (λ (bs : List Bool). IsMaskOf bs bits) c.in_ok-equal.ensures c.words-bits.ensures) c.nulls-missing.ensures)

pub returns : goal.returns
returns g c =
    let cells = c.args.column.now in
    let t = c.args.text.now in
    let bits = c.words-bits.result.now in
    let missing = c.nulls-missing.result.now in
    read (map (λ d. equal_of d (text t)) cells) _ _ bits missing c.len.result c.in_ok-trues.ensures c.in_ok-nulls.ensures (c.len.ensures ∙ sym (length-map cells (λ d. equal_of d (text t))))
    (equality_shown cells t bits missing (subst (λ (bs : List Bool). IsMaskOf bs bits) c.in_ok-equal.ensures c.words-bits.ensures) c.nulls-missing.ensures)
