use Rattle.std.proofs.Common.{◌+◌, ◌-◌, ◌*◌, ◌^◌, ◌/◌, ◌%◌, take, set, get_or, bit_and, sym, ap, ◌∙◌, arith, subst}
use Rattle.columns.specs.Bits.{bits_from, IsMaskOf}
use Rattle.columns.proofs.Bits.{length-bits_from, mask_cut}
use Rattle.std.proofs.lemmas.List.{get_or_default, length-take-le}
use Rattle.columns.proofs.masks.truncate_bits.Goals as goal

pub index_mut-requires : goal.index_mut-requires
index_mut-requires g c =
    let long = length-bits_from c.args.words.now.items 0 c.args.len in
    omega (arith, long, c.requires.mask.long, c.if-to-eq0.false, c.truncate-else-to-eq0.ensures.len)

pub returns-else-to-eq0 : goal.returns-else-to-eq0
returns-else-to-eq0 g c =
    let ws = c.args.words.now.items in
    let bs = bits_from ws 0 c.args.len in
    let m = c.args.to in
    subst (λ l. IsMaskOf (take m bs) (set l (m / 64) (bit_and c.index_mut.result.now (1 * 2 ^ (m % 64) % 2 ^ 64 - 1)))) (sym c.truncate-else-to-eq0.ensures.items)
    (mask_cut bs ws c.requires.mask m c.index_mut.result.now (omega (arith, length-bits_from ws 0 c.args.len)) c.if-to-eq0.false
    (c.index_mut.ensures.value ∙ ap (λ l. get_or l (m / 64) c.index_mut.result.now) c.truncate-else-to-eq0.ensures.items ∙ get_or_default (take (m / 64 + 1) ws) (m / 64) c.index_mut.result.now 0
    (omega (arith, length-take-le (m / 64 + 1) ws (omega (arith, c.requires.mask.long, length-bits_from ws 0 c.args.len, c.if-to-eq0.false))))))
