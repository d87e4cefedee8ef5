use Rattle.row_reader.specs.Expressions.{name}
use Rattle.row_reader.specs.Language.{enclosed, is}
use Rattle.row_tokens.specs.View.{words_of}
use Rattle.row_tokens.specs.declared.token.TokenKind.TheVariants as k
use Rattle.value.specs.Names.{Name}
use Rattle.row_statements.proofs.Named.{after_name, exit_named}
use Rattle.row_statements.proofs.creating.on_column.Goals as goal

pub returns-in_err-table : goal.returns-in_err-table
returns-in_err-table g c = exit_named c.args.reader.run_limit c.args.reader.depth_limit (is k.On) name (enclosed name) (words_of c.args.tokens.now) _ c.in_err-table.field-0.0 c.from_residual.result c.from_residual.ensures.1 c.in_err-table.ensures

pub returns : goal.returns
returns g c =
    after_name (λ (t : Name). t) (λ (t : Name). t) c.args.reader.run_limit c.args.reader.depth_limit (is k.On) name (enclosed name) c.args.tokens.now c.in_ok-table.table c.in_ok-table.rest.now c.enclosed_name.result c.in_ok-table.ensures c.enclosed_name.ensures
    c.before-2.result c.before-2.ensures
