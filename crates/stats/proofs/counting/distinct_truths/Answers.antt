use Rattle.std.proofs.Common.{◌≡◌, true, false, cond, sym, ◌∙◌, arith}
use Rattle.std.specs.Ordering.{bool_cmp}
use Rattle.stats.specs.Repeats.{is_repeated}
use Rattle.stats.proofs.Parts.{any_is, count_truths}
use Rattle.stats.proofs.counting.distinct_truths.Goals as goal

pub returns : goal.returns
returns c =
    let truths = c.args.truths.now in
    let no : c.contains.result ≡ is_repeated bool_cmp false truths = c.contains.ensures.value ∙ any_is false truths in
    let yes : c.contains-2.result ≡ is_repeated bool_cmp true truths = c.contains-2.ensures.value ∙ any_is true truths in
    let one : c.from.result ≡ cond c.contains.result 1 0 = grind arith in
    let other : c.from-2.result ≡ cond c.contains-2.result 1 0 = grind arith in
    rw (one, other, no, yes) (sym (count_truths truths))
