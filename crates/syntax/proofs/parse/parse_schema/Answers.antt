use Rattle.std.proofs.Common.{map}
use Rattle.syntax.specs.Parsing.{parsed_schema, schema_bytes}
use Rattle.row_statements.specs.Schemas.{schema}
use Rattle.row_ast.specs.View.{statement_of}
use Rattle.syntax.proofs.Decides.{schema_good}
use Rattle.syntax.proofs.TextAnswer.{schema_determined, gives_found, gives_only, within_refused}
use Rattle.syntax.proofs.parse.parse_schema.Goals as goal

pub returns-clause-found : goal.returns-clause-found
unfolding parsed_schema
returns-clause-found g c = gives_found schema_determined (λ found. map (λ s. statement_of s) found) c.args.text.now c.read_text.result c.read_text.ensures.reading

pub returns-clause-only : goal.returns-clause-only
unfolding parsed_schema
returns-clause-only g c = λ t h l. gives_only schema_determined (λ found. map (λ s. statement_of s) found) c.args.text.now c.read_text.result c.read_text.ensures.reading t h l tt

pub returns-clause-refused : goal.returns-clause-refused
returns-clause-refused g c = within_refused schema schema_good schema_bytes c.args.text.now (λ found. map (λ s. statement_of s) found) c.read_text.result c.read_text.ensures.reading
