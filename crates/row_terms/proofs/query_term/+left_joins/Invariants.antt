use Rattle.std.proofs.Common.{length}
use Rattle.row_terms.proofs.query_term.+left_joins.Given as goal

abbrev pub decreases-left_joins : goal.decreases-left_joins
decreases-left_joins g l = length l.conditions.now
