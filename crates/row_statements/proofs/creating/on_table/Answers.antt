use Rattle.std.proofs.Common.{option_map}
use Rattle.row_grammar.specs.Grammar.{both}
use Rattle.row_expressions.specs.View.{located}
use Rattle.row_statements.specs.Creates.{command, policy_roles, strength, using}
use Rattle.row_reader.specs.Expressions.{name}
use Rattle.row_reader.specs.Language.{is}
use Rattle.row_tokens.specs.View.{word_of, words_of}
use Rattle.row_tokens.specs.declared.token.TokenKind.TheVariants as k
use Rattle.value.specs.Names.{Name}
use Rattle.row_statements.proofs.Named.{after_name, exit_named}
use Rattle.row_statements.proofs.creating.on_table.Goals as goal

pub returns-in_err-table : goal.returns-in_err-table
returns-in_err-table g c = exit_named c.args.reader.run_limit c.args.reader.depth_limit (is k.On) name (both strength (both command (both policy_roles using))) (words_of c.args.tokens.now) _ c.in_err-table.field-0.0 c.from_residual.result c.from_residual.ensures.1 c.in_err-table.ensures

pub returns : goal.returns
returns g c =
    after_name (λ (t : Name). t) (λ t. (t.0, (option_map (λ w. word_of w) t.1.0, (t.1.1.0, located {A = g.row.A.Denot} t.1.1.1)))) c.args.reader.run_limit c.args.reader.depth_limit (is k.On) name (both strength (both command (both policy_roles using))) c.args.tokens.now c.in_ok-table.table c.in_ok-table.rest.now c.policy_terms.result c.in_ok-table.ensures c.policy_terms.ensures
    c.before-2.result c.before-2.ensures
