use Rattle.std.proofs.Common.{◌<◌, ◌^◌, ◌∙◌, sym, subst, arith}
use Rattle.std.specs.Int.{to_le_bytes, w64}
use Rattle.value.proofs.DigitWords.{of_digits, value_is}
use Rattle.value.proofs.digits.eight_digits.Goals as goal

pub returns-clause-number : goal.returns-clause-number
returns-clause-number c =
    let bs = to_le_bytes w64 c.args.word in
    (of_digits c.args.word (omega arith) c.requires).number ∙ sym (value_is 0 bs c.requires)

pub returns-clause-small : goal.returns-clause-small
returns-clause-small c =
    let is = of_digits c.args.word (omega arith) c.requires in
    subst (λ n. n < 10 ^ 8) (sym is.number) is.small
