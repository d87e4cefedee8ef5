use Rattle.syntax.specs.Parsing.{parsed_statement, statement_bytes}
use Rattle.row_statements.specs.Schemas.{statement}
use Rattle.row_ast.specs.View.{statement_of}
use Rattle.syntax.proofs.Decides.{statement_good}
use Rattle.syntax.proofs.TextAnswer.{statement_determined, gives_found, gives_only, within_refused}
use Rattle.syntax.proofs.parse.parse_statement.Goals as goal

pub returns-clause-found : goal.returns-clause-found
unfolding parsed_statement
returns-clause-found g c = gives_found statement_determined (λ s. statement_of s) c.args.text.now c.read_text.result c.read_text.ensures.reading

pub returns-clause-only : goal.returns-clause-only
unfolding parsed_statement
returns-clause-only g c = λ t h l. gives_only statement_determined (λ s. statement_of s) c.args.text.now c.read_text.result c.read_text.ensures.reading t h l tt

pub returns-clause-refused : goal.returns-clause-refused
returns-clause-refused g c = within_refused statement statement_good statement_bytes c.args.text.now (λ s. statement_of s) c.read_text.result c.read_text.ensures.reading
