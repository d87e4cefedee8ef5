use Rattle.std.proofs.Common.{map, length, arith}
use Rattle.std.proofs.lemmas.List.{length-map}
use Rattle.row_tokens.specs.View.{word_of}
use Rattle.syntax.proofs.TextAnswer.{none_left, left_over}
use Rattle.syntax.proofs.parse.whole.Goals as goal

pub returns-in-empty : goal.returns-in-empty
returns-in-empty g c =
    none_left c.reader.result.run_limit c.reader.result.depth_limit c.reader.ensures.run_limit c.reader.ensures.depth_limit g.P.Parser.rule (map word_of c.args.tokens.now) (g.P.Parser.view c.in_ok-tree.tree) (map word_of c.in_ok-tree.rest.now) (length c.in_ok-tree.rest.now)
    c.in_ok-tree.ensures (length-map c.in_ok-tree.rest.now word_of) (omega (arith, c.in-empty.len_below))

pub returns-in-len1-up : goal.returns-in-len1-up
returns-in-len1-up g c =
    left_over c.reader.result.run_limit c.reader.result.depth_limit c.reader.ensures.run_limit c.reader.ensures.depth_limit g.P.Parser.rule (map word_of c.args.tokens.now) (g.P.Parser.view c.in_ok-tree.tree) (map word_of c.in_ok-tree.rest.now) (length c.in_ok-tree.rest.now)
    c.in_ok-tree.ensures (length-map c.in_ok-tree.rest.now word_of) (omega (arith, c.in-len1-up.len_at_least))
