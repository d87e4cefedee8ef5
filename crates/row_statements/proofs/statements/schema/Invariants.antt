use Rattle.std.proofs.Common.{◌≡◌, ◌-◌, map}
use Rattle.row_grammar.specs.Decoder.{first}
use Rattle.row_grammar.specs.Limits.{reads}
use Rattle.row_tokens.specs.View.{word_of}
use Rattle.row_reader.specs.Language.{language}
use Rattle.row_reader.specs.Expressions.{grammar, nested_first}
use Rattle.row_statements.specs.Schemas.{ended_statement, schema}
use Rattle.row_ast.specs.View.{statement_of}
use Rattle.row_reader.proofs.Lists.{listed}
use Rattle.row_statements.proofs.statements.schema.Given as goal

abbrev pub invariant-loop : goal.invariant-loop
invariant-loop g l =
    listed l.reader.run_limit l.reader.depth_limit (λ s. statement_of s) ended_statement (first language nested_first ended_statement) l.all (l.most - l.counter) (map word_of l.rest)
    ≡ reads grammar l.reader.run_limit l.reader.depth_limit schema (map word_of l.tokens)
