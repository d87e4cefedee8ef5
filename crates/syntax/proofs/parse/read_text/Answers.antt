use Rattle.std.proofs.Common.{map, ap, ◌∙◌}
use Rattle.row_tokens.specs.View.{word_of}
use Rattle.syntax.proofs.TextAnswer.{within_is}
use Rattle.syntax.proofs.parse.read_text.Goals as goal

pub returns-in-Ok-clause-reading : goal.returns-in-Ok-clause-reading
returns-in-Ok-clause-reading g c =
    within_is g.P.Parser.rule c.args.most c.args.text.now (map word_of c.as_slice.result.now) (g.P.Parser.view c.in-Ok.tree)
    (ap (λ ts. map word_of ts) c.as_slice.ensures.value ∙ c.in_ok-tokens.ensures) c.if-text-most.false c.in-Ok.ensures
