use Rattle.std.proofs.Common.{◌≡◌}
use Rattle.row_terms.specs.View.{term_of}
use Rattle.row_terms.specs.Written as spec
use Rattle.row_terms.proofs.query_term.joins.Given as goal

abbrev pub invariant-loop-entry : goal.invariant-loop-entry
invariant-loop-entry g l = term_of l.term ≡ spec.joins l.entry
