use Rattle.std.proofs.Common.{◌≡◌, ◌-◌, ◌*◌, ◌%◌, ◌^◌, ◌<◌, ℕ, ap, ◌∙◌, arith}
use Rattle.std.specs.Int.{bit_at}
use Rattle.std.proofs.lemmas.Nat.Bits.{bit_at_ones, bit_at_ones_above}
use Rattle.std.proofs.Math.Pow.{pow-lt}
use Rattle.columns.proofs.logic.item_bits.Goals as goal

low : (r : ℕ) → r < 64 → 1 * 2 ^ r % 2 ^ 64 - 1 ≡ 2 ^ r - 1
low r lt = let small : 1 * 2 ^ r % 2 ^ 64 ≡ 2 ^ r = omega (arith, pow-lt {i = r} {j = 64} lt) in ap (λ n. n - 1) small

pub returns-then-rest-ge64-clause-items : goal.returns-then-rest-ge64-clause-items
returns-then-rest-ge64-clause-items c i lt within = bit_at_ones 64 i lt

pub returns-then-rest-ge64-clause-past : goal.returns-then-rest-ge64-clause-past
returns-then-rest-ge64-clause-past c i lt past = absurd (omega (arith, c.if-rest-ge64.true))

pub returns-else-rest-ge64-clause-items : goal.returns-else-rest-ge64-clause-items
returns-else-rest-ge64-clause-items c i lt within =
    let r = c.args.len - c.args.k * 64 in
    ap (λ n. bit_at n i) (low r (omega (arith, c.if-rest-ge64.false))) ∙ bit_at_ones r i (omega arith)

pub returns-else-rest-ge64-clause-past : goal.returns-else-rest-ge64-clause-past
returns-else-rest-ge64-clause-past c i lt past =
    let r = c.args.len - c.args.k * 64 in
    ap (λ n. bit_at n i) (low r (omega (arith, c.if-rest-ge64.false))) ∙ bit_at_ones_above r i (omega arith)
