use Rattle.std.proofs.Common.{arith}
use Rattle.std.specs.Char.{is_ascii_digit}
use Rattle.std.specs.Int.{to_le_bytes, w64}
use Rattle.std.specs.List.{list_all}
use Rattle.std.proofs.lemmas.Bool.Decides.{Decides-eqb, same_from_decides}
use Rattle.value.proofs.DigitWords.{highs_low, first_passed, second_passed, both_passed}
use Rattle.value.proofs.digits.are_eight_digits.Goals as goal

pub overflow_add-result : goal.overflow_add-result
overflow_add-result c =
    let low = highs_low c.args.word (omega arith) c.if-word-eq3472328296227680304.true in
    record { fits = omega arith }

pub returns-then-word-eq3472328296227680304 : goal.returns-then-word-eq3472328296227680304
returns-then-word-eq3472328296227680304 c =
    let n = c.args.word in
    same_from_decides _ (list_all is_ascii_digit (to_le_bytes w64 n)) (Decides-eqb _ 0x3030303030303030)
    ((λ digits. second_passed n (omega arith) digits), λ f. both_passed n (omega arith) c.if-word-eq3472328296227680304.true f)

pub returns-else-word-eq3472328296227680304 : goal.returns-else-word-eq3472328296227680304
returns-else-word-eq3472328296227680304 c =
    let n = c.args.word in
    same_from_decides _ (list_all is_ascii_digit (to_le_bytes w64 n)) (Decides-eqb _ 0x3030303030303030)
    ((λ digits. first_passed n (omega arith) digits), λ e. absurd (c.if-word-eq3472328296227680304.false e))
