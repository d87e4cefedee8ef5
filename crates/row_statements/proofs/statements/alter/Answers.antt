use Rattle.row_tokens.specs.View.{word_of, words_of}
use Rattle.row_statements.proofs.Alters.{named}
use Rattle.row_statements.proofs.statements.alter.Goals as goal

pub returns : goal.returns
returns g c = rw (named c.args.reader.run_limit c.args.reader.depth_limit (words_of c.args.tokens.now) (words_of c.in_ok-rest.rest.now) (words_of c.in_ok-rest-2.rest.now) (words_of c.in_ok-table.rest.now) (word_of c.in_ok-rest.field-0-0) (word_of c.in_ok-rest-2.field-0-0) c.in_ok-table.table c.in_ok-rest.ensures c.in_ok-rest-2.ensures c.in_ok-table.ensures) c.altered.ensures
