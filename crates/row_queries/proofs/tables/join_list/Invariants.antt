use Rattle.std.proofs.Common.{◌≡◌, ◌-◌, map}
use Rattle.row_grammar.specs.Decoder.{first}
use Rattle.row_grammar.specs.Limits.{reads}
use Rattle.row_tokens.specs.View.{word_of}
use Rattle.row_reader.specs.Language.{language}
use Rattle.row_reader.specs.Expressions.{grammar, nested_first}
use Rattle.row_queries.specs.From.{join, join_list}
use Rattle.row_ast.specs.View.{join_of}
use Rattle.row_reader.proofs.Lists.{listed}
use Rattle.row_queries.proofs.tables.join_list.Given as goal

abbrev pub invariant-loop : goal.invariant-loop
invariant-loop g l =
    listed l.reader.run_limit l.reader.depth_limit (λ j. join_of j) join (first language nested_first join) l.all (l.most - l.counter) (map word_of l.rest)
    ≡ reads grammar l.reader.run_limit l.reader.depth_limit join_list (map word_of l.tokens)
