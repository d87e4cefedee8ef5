use Rattle.syntax.proofs.Tables.{has_table}
use Rattle.syntax.proofs.laws.law_queries_have_tables.Goals as goal

pub returns : goal.returns
returns c = λ text q is. has_table text q (c.law_parsing_is_determined.ensures.query.found text q is).0
