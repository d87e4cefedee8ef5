use Rattle.std.proofs.Common.{length, map, sym, ap, ◌∙◌}
use Rattle.std.proofs.lemmas.List.{length-map}
use Rattle.value.specs.Truths.{negated}
use Rattle.lane_filters.specs.View.{truths_from}
use Rattle.lane_filters.proofs.Shown.{held, length-truths, null_words, read, same_masks, true_words, written_back}
use Rattle.lane_filters.proofs.truths.Truths.negate.Goals as goal

pub not_masks-requires-clause-trues : goal.not_masks-requires-clause-trues
not_masks-requires-clause-trues g c = ap length c.deref_mut.ensures.value ∙ true_words c.self.inside.trues.items c.self.inside.nulls.items c.self.inside.len c.self.invariant

pub not_masks-requires-clause-nulls : goal.not_masks-requires-clause-nulls
not_masks-requires-clause-nulls g c = ap length c.deref.ensures.value ∙ null_words c.self.inside.trues.items c.self.inside.nulls.items c.self.inside.len c.self.invariant

pub invariant_of-self : goal.invariant_of-self
invariant_of-self g c =
    let ts = c.self.inside.trues.items in
    let ns = c.self.inside.nulls.items in
    let n = c.self.inside.len in
    let xs = truths_from ts ns 0 n in
    let long = length-truths ts ns 0 n in
    held (map negated xs) _ ns c.not_masks.new.is_true c.deref.result.now n
    (written_back c.self.inside.trues.len c.not_masks.new.is_true ts (c.not_masks.auto.is_true ∙ ap length c.deref_mut.ensures.value) c.self.inside.trues.ok.0) (sym c.deref.ensures.value)
    (sym (length-map xs negated ∙ long))
    (c.not_masks.ensures xs long (same_masks xs c.deref_mut.result.now c.deref.result.now ts ns n c.deref_mut.ensures.value c.deref.ensures.value (sym long) c.self.invariant))

pub returns : goal.returns
returns g c =
    let ts = c.self.inside.trues.items in
    let ns = c.self.inside.nulls.items in
    let n = c.self.inside.len in
    let xs = truths_from ts ns 0 n in
    let long = length-truths ts ns 0 n in
    read (map negated xs) _ ns c.not_masks.new.is_true c.deref.result.now n
    (written_back c.self.inside.trues.len c.not_masks.new.is_true ts (c.not_masks.auto.is_true ∙ ap length c.deref_mut.ensures.value) c.self.inside.trues.ok.0) (sym c.deref.ensures.value)
    (sym (length-map xs negated ∙ long))
    (c.not_masks.ensures xs long (same_masks xs c.deref_mut.result.now c.deref.result.now ts ns n c.deref_mut.ensures.value c.deref.ensures.value (sym long) c.self.invariant)) ∙ ap (map negated) c.self.view_is
