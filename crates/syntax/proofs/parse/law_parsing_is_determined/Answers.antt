use Rattle.syntax.proofs.TextAnswer.{query_determined, schema_determined, statement_determined}
use Rattle.syntax.proofs.parse.law_parsing_is_determined.Goals as goal

pub returns-clause-query : goal.returns-clause-query
returns-clause-query c = query_determined

pub returns-clause-schema : goal.returns-clause-schema
returns-clause-schema c = schema_determined

pub returns-clause-statement : goal.returns-clause-statement
returns-clause-statement c = statement_determined
