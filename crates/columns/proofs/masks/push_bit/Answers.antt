use Rattle.std.proofs.Common.{◌≡◌, ◌/◌, ◌%◌, ◌^◌, ◌*◌, ◌∷◌, [], ◌++◌, length, set, sym, ap, ◌∙◌, arith, subst, bit_or}
use Rattle.columns.specs.Bits.{bits_from, IsMaskOf}
use Rattle.columns.proofs.Bits.{length-bits_from, mask_new_word, mask_set, mask_keep}
use Rattle.columns.proofs.masks.push_bit.Goals as goal
use Rattle.std.proofs.lemmas.List.{get_or_default}

pub index_mut-requires : goal.index_mut-requires
index_mut-requires g c =
    let long = length-bits_from c.args.words.now.items 0 c.args.len in
    omega (arith, long, c.requires.mask.long, c.if-len-eq0.false)

pub returns-in_ok-push-clause-ok : goal.returns-in_ok-push-clause-ok
returns-in_ok-push-clause-ok g c =
    let ws = c.args.words.now.items in
    let bs = bits_from ws 0 c.args.len in
    let whole : length bs % 64 ≡ 0 = ap (λ n. n % 64) (length-bits_from ws 0 c.args.len) ∙ c.if-len-eq0.true in
    subst (λ l. IsMaskOf (bs ++ c.args.bit ∷ []) l) (sym (c.in_ok-push.ensures.items ∙ ap (λ w. ws ++ w ∷ []) c.from.ensures)) (mask_new_word bs ws c.requires.mask c.args.bit whole)

pub returns-then-bit-clause-ok : goal.returns-then-bit-clause-ok
returns-then-bit-clause-ok g c =
    let ws = c.args.words.now.items in
    let bs = bits_from ws 0 c.args.len in
    subst (λ b. IsMaskOf (bs ++ b ∷ []) (set ws (c.args.len / 64) (bit_or c.index_mut.result.now (1 * 2 ^ (c.args.len % 64) % 2 ^ 64)))) (sym c.if-bit.true)
    (mask_set bs ws c.requires.mask c.args.len c.index_mut.result.now (sym (length-bits_from ws 0 c.args.len)) c.if-len-eq0.false
    (c.index_mut.ensures.value ∙ get_or_default ws (c.args.len / 64) c.index_mut.result.now 0 (omega (arith, c.requires.mask.long, length-bits_from ws 0 c.args.len, c.if-len-eq0.false))))

pub returns-else-bit-clause-ok : goal.returns-else-bit-clause-ok
returns-else-bit-clause-ok g c =
    let ws = c.args.words.now.items in
    let bs = bits_from ws 0 c.args.len in
    subst (λ b. IsMaskOf (bs ++ b ∷ []) ws) (sym c.if-bit.false) (mask_keep bs ws c.requires.mask (λ whole. c.if-len-eq0.false (ap (λ n. n % 64) (sym (length-bits_from ws 0 c.args.len)) ∙ whole)))
