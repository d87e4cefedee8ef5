use Rattle.std.proofs.Common.{◌≡◌, List, Bool, length, map, sym, ap, subst, ◌∙◌}
use Rattle.std.proofs.lemmas.List.{length-map}
use Rattle.value.specs.Orders.{is_true}
use Rattle.columns.specs.Bits as masks
use Rattle.columns.proofs.Bits.{read_back_as}
use Rattle.lane_filters.specs.View.{truths_from}
use Rattle.lane_filters.proofs.Shown.{length-truths}
use Rattle.lane_filters.proofs.truths.Truths.into_mask.Goals as goal

pub of_words-requires : goal.of_words-requires
of_words-requires g c =
    let trues = c.self.inside.trues.items in
    let truths = truths_from trues c.self.inside.nulls.items 0 c.self.inside.len in
    let long : c.self.inside.len ≡ length (map is_true truths) = sym (length-map truths is_true ∙ length-truths trues c.self.inside.nulls.items 0 c.self.inside.len) in
    subst (λ (bs : List Bool). masks.IsMaskOf bs trues) (sym (read_back_as (map is_true truths) trues c.self.inside.len long c.self.invariant.true_bits)) c.self.invariant.true_bits

pub returns : goal.returns
returns g c =
    let trues = c.self.inside.trues.items in
    let truths = truths_from trues c.self.inside.nulls.items 0 c.self.inside.len in
    let long : c.self.inside.len ≡ length (map is_true truths) = sym (length-map truths is_true ∙ length-truths trues c.self.inside.nulls.items 0 c.self.inside.len) in
    c.of_words.ensures ∙ read_back_as (map is_true truths) trues c.self.inside.len long c.self.invariant.true_bits ∙ ap (map is_true) c.self.view_is
