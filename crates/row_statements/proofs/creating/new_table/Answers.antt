use Rattle.std.proofs.Common.{map, refl}
use Rattle.row_tokens.specs.View.{words_of}
use Rattle.row_tokens.specs.declared.token.TokenKind.TheVariants as k
use Rattle.row_reader.specs.Expressions.{name}
use Rattle.row_reader.specs.Language.{enclosed, is}
use Rattle.value.specs.Names.{Name}
use Rattle.row_ast.specs.Statements.{CreateTable}
use Rattle.value.specs.Columns.{column_of}
use Rattle.row_statements.specs.Creates.{column_defs, new_table}
use Rattle.row_statements.proofs.Named.{exit_made, made_gives, made_stops}
use Rattle.row_statements.proofs.creating.new_table.Goals as goal

pub returns-in_err-name : goal.returns-in_err-name
unfolding new_table
returns-in_err-name g c = exit_made c.args.reader.run_limit c.args.reader.depth_limit (is k.Table) name (enclosed column_defs) (words_of c.args.tokens.now) (λ p. CreateTable p.0 p.1) _ c.in_err-name.field-0.0 c.from_residual.result c.from_residual.ensures.1 c.in_err-name.ensures

pub returns-in_err-name-2 : goal.returns-in_err-name-2
unfolding new_table
returns-in_err-name-2 g c =
    made_stops (λ (t : Name). t) (λ t. map (λ c. column_of {A = g.row.A.Denot} c) t) c.args.reader.run_limit c.args.reader.depth_limit (is k.Table) name (enclosed column_defs) c.args.tokens.now c.in_ok-name.name c.in_ok-name.rest.now c.enclosed_columns.result c.in_ok-name.ensures c.enclosed_columns.ensures
    (λ p. CreateTable p.0 p.1) _ c.in_err-name-2.field-0.0 c.from_residual-in_err-name-2.result c.from_residual-in_err-name-2.ensures.1 c.in_err-name-2.ensures

pub returns : goal.returns
unfolding new_table
returns g c =
    made_gives (λ (t : Name). t) (λ t. map (λ c. column_of {A = g.row.A.Denot} c) t) c.args.reader.run_limit c.args.reader.depth_limit (is k.Table) name (enclosed column_defs) c.args.tokens.now c.in_ok-name.name c.in_ok-name.rest.now c.enclosed_columns.result c.in_ok-name.ensures c.enclosed_columns.ensures
    (λ p. CreateTable p.0 p.1) c.in_ok-name-2.name c.in_ok-name-2.columns c.in_ok-name-2.rest _ c.in_ok-name-2.ensures refl
