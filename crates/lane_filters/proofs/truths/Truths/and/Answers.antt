use Rattle.std.proofs.Common.{◌≡◌, length, sym, ap, ◌∙◌}
use Rattle.std.specs.Simd.Lanes.{zip2}
use Rattle.std.proofs.lemmas.Simd.{length-zip2}
use Rattle.value.specs.Truths.{least}
use Rattle.lane_filters.specs.View.{truths_from}
use Rattle.lane_filters.proofs.Shown.{held, length-truths, read, same_masks, written_back}
use Rattle.lane_filters.proofs.truths.Truths.and.Goals as goal

pub invariant_of-self : goal.invariant_of-self
invariant_of-self g c =
    let ts = c.self.inside.trues.items in
    let ns = c.self.inside.nulls.items in
    let n = c.self.inside.len in
    let us = c.other.inside.trues.items in
    let ms = c.other.inside.nulls.items in
    let xs = truths_from ts ns 0 n in
    let ys = truths_from us ms 0 c.other.inside.len in
    let long = length-truths ts ns 0 n in
    let same : length xs ≡ length ys = ap length c.self.view_is ∙ sym c.requires ∙ sym (ap length c.other.view_is) in
    held (zip2 least xs ys) _ _ c.and_masks.new.is_true c.and_masks.new.is_null n
    (written_back c.self.inside.trues.len c.and_masks.new.is_true ts (c.and_masks.auto.is_true ∙ ap length c.deref_mut.ensures.value) c.self.inside.trues.ok.0)
    (written_back c.self.inside.nulls.len c.and_masks.new.is_null ns (c.and_masks.auto.is_null ∙ ap length c.deref_mut-2.ensures.value) c.self.inside.nulls.ok.0)
    (sym (length-zip2 least xs ys same ∙ long))
    (c.and_masks.ensures xs ys same
    (same_masks xs c.deref_mut.result.now c.deref_mut-2.result.now ts ns n c.deref_mut.ensures.value c.deref_mut-2.ensures.value (sym long) c.self.invariant)
    (same_masks ys c.deref.result.now c.deref-2.result.now us ms c.other.inside.len c.deref.ensures.value c.deref-2.ensures.value (sym (length-truths us ms 0 c.other.inside.len)) c.other.invariant))

pub returns : goal.returns
returns g c =
    let ts = c.self.inside.trues.items in
    let ns = c.self.inside.nulls.items in
    let n = c.self.inside.len in
    let us = c.other.inside.trues.items in
    let ms = c.other.inside.nulls.items in
    let xs = truths_from ts ns 0 n in
    let ys = truths_from us ms 0 c.other.inside.len in
    let long = length-truths ts ns 0 n in
    let same : length xs ≡ length ys = ap length c.self.view_is ∙ sym c.requires ∙ sym (ap length c.other.view_is) in
    read (zip2 least xs ys) _ _ c.and_masks.new.is_true c.and_masks.new.is_null n
    (written_back c.self.inside.trues.len c.and_masks.new.is_true ts (c.and_masks.auto.is_true ∙ ap length c.deref_mut.ensures.value) c.self.inside.trues.ok.0)
    (written_back c.self.inside.nulls.len c.and_masks.new.is_null ns (c.and_masks.auto.is_null ∙ ap length c.deref_mut-2.ensures.value) c.self.inside.nulls.ok.0)
    (sym (length-zip2 least xs ys same ∙ long))
    (c.and_masks.ensures xs ys same
    (same_masks xs c.deref_mut.result.now c.deref_mut-2.result.now ts ns n c.deref_mut.ensures.value c.deref_mut-2.ensures.value (sym long) c.self.invariant)
    (same_masks ys c.deref.result.now c.deref-2.result.now us ms c.other.inside.len c.deref.ensures.value c.deref-2.ensures.value (sym (length-truths us ms 0 c.other.inside.len)) c.other.invariant))
    ∙ (λ i. zip2 least (c.self.view_is i) (c.other.view_is i))
