use Rattle.std.proofs.Common.{◌≡◌, ◌-◌, map}
use Rattle.row_grammar.specs.Limits.{reads}
use Rattle.row_tokens.specs.declared.token.TokenKind.TheVariants as k
use Rattle.row_tokens.specs.View.{word_of}
use Rattle.row_reader.specs.Language.{after, comma_list, is}
use Rattle.row_reader.specs.Expressions.{grammar}
use Rattle.row_reader.proofs.Lists.{listed}
use Rattle.row_reader.proofs.comma_list.comma_list.Given as goal

abbrev pub invariant-loop : goal.invariant-loop
invariant-loop g l =
    listed l.reader.run_limit l.reader.depth_limit g.I.Parser.view (after (is k.Comma) g.I.Parser.rule) (is k.Comma) l.all (l.most - l.counter) (map word_of l.rest)
    ≡ reads grammar l.reader.run_limit l.reader.depth_limit (comma_list g.I.Parser.rule) (map word_of l.tokens)
