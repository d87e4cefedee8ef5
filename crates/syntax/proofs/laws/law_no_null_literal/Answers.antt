use Rattle.row_tokens.proofs.NoNulls.{no_nulls}
use Rattle.syntax.proofs.laws.law_no_null_literal.Goals as goal

pub returns : goal.returns
returns c = no_nulls
