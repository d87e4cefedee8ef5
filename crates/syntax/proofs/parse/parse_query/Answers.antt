use Rattle.syntax.proofs.TextAnswer.{query_determined, gives_found, gives_only, query_refused}
use Rattle.row_ast.specs.View.{query_of}
use Rattle.syntax.proofs.parse.parse_query.Goals as goal

pub returns-clause-found : goal.returns-clause-found
returns-clause-found g c = gives_found query_determined (λ q. query_of q) c.args.text.now c.query_within_limits.result c.query_within_limits.ensures.reading

pub returns-clause-only : goal.returns-clause-only
returns-clause-only g c = λ q h l s. gives_only query_determined (λ q. query_of q) c.args.text.now c.query_within_limits.result c.query_within_limits.ensures.reading q h l s

pub returns-clause-refused : goal.returns-clause-refused
returns-clause-refused g c = query_refused c.args.text.now (λ q. query_of q) c.query_within_limits.result c.query_within_limits.ensures.reading
