use Rattle.std.proofs.Common.{option_map}
use Rattle.row_tokens.specs.View.{word_of, words_of}
use Rattle.row_grammar.specs.Grammar.{both}
use Rattle.row_tokens.specs.declared.token.TokenKind.TheVariants as k
use Rattle.row_reader.specs.Expressions.{name}
use Rattle.row_reader.specs.Language.{after, is}
use Rattle.value.specs.Names.{Name}
use Rattle.row_ast.specs.Statements.{CreatePolicy}
use Rattle.row_expressions.specs.View.{located}
use Rattle.row_statements.specs.Creates.{command, new_policy, policy_roles, strength, using}
use Rattle.row_statements.proofs.Named.{exit_made, made_gives, made_stops}
use Rattle.row_statements.proofs.creating.new_policy.Goals as goal

pub returns-in_err-name : goal.returns-in_err-name
unfolding new_policy
returns-in_err-name g c = exit_made c.args.reader.run_limit c.args.reader.depth_limit (is k.Policy) name (after (is k.On) (both name (both strength (both command (both policy_roles using))))) (words_of c.args.tokens.now) (λ p. CreatePolicy record { name = p.0; table = p.1.0; restrictive = p.1.1.0; roles = p.1.1.1.1.0; predicate = p.1.1.1.1.1.1 }) _ c.in_err-name.field-0.0 c.from_residual.result c.from_residual.ensures.1 c.in_err-name.ensures

pub returns-in_err-name-2 : goal.returns-in_err-name-2
unfolding new_policy
returns-in_err-name-2 g c =
    made_stops (λ (t : Name). t) (λ t. (t.0, (t.1.0, (option_map (λ w. word_of w) t.1.1.0, (t.1.1.1.0, located {A = g.row.A.Denot} t.1.1.1.1))))) c.args.reader.run_limit c.args.reader.depth_limit (is k.Policy) name (after (is k.On) (both name (both strength (both command (both policy_roles using))))) c.args.tokens.now c.in_ok-name.name c.in_ok-name.rest.now c.on_table.result c.in_ok-name.ensures c.on_table.ensures
    (λ p. CreatePolicy record { name = p.0; table = p.1.0; restrictive = p.1.1.0; roles = p.1.1.1.1.0; predicate = p.1.1.1.1.1.1 }) _ c.in_err-name-2.field-0.0 c.from_residual-in_err-name-2.result c.from_residual-in_err-name-2.ensures.1 c.in_err-name-2.ensures

pub returns : goal.returns
unfolding new_policy
returns g c =
    made_gives (λ (t : Name). t) (λ t. (t.0, (t.1.0, (option_map (λ w. word_of w) t.1.1.0, (t.1.1.1.0, located {A = g.row.A.Denot} t.1.1.1.1))))) c.args.reader.run_limit c.args.reader.depth_limit (is k.Policy) name (after (is k.On) (both name (both strength (both command (both policy_roles using))))) c.args.tokens.now c.in_ok-name.name c.in_ok-name.rest.now c.on_table.result c.in_ok-name.ensures c.on_table.ensures
    (λ p. CreatePolicy record { name = p.0; table = p.1.0; restrictive = p.1.1.0; roles = p.1.1.1.1.0; predicate = p.1.1.1.1.1.1 }) c.in_ok-name-2.name (c.in_ok-name-2.table, c.in_ok-name-2.terms) c.in_ok-name-2.rest _ c.in_ok-name-2.ensures c.policy_of.ensures
