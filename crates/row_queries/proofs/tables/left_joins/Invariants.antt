use Rattle.std.proofs.Common.{◌≡◌, ◌-◌, map}
use Rattle.row_grammar.specs.Limits.{reads}
use Rattle.row_tokens.specs.declared.token.TokenKind.TheVariants as k
use Rattle.row_tokens.specs.View.{word_of}
use Rattle.row_reader.specs.Language.{is}
use Rattle.row_reader.specs.Expressions.{grammar}
use Rattle.row_queries.specs.From.{left_join, left_joins}
use Rattle.row_ast.specs.View.{left_join_of}
use Rattle.row_reader.proofs.Lists.{listed}
use Rattle.row_queries.proofs.tables.left_joins.Given as goal

abbrev pub invariant-loop : goal.invariant-loop
invariant-loop g l =
    listed l.reader.run_limit l.reader.depth_limit (λ j. left_join_of j) left_join (is k.Left) l.all (l.most - l.counter) (map word_of l.rest)
    ≡ reads grammar l.reader.run_limit l.reader.depth_limit left_joins (map word_of l.tokens)
