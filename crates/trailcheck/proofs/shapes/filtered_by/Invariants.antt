use Rattle.std.proofs.Common.{◌≡◌, filter, drop}
use Rattle.row_terms.specs.View.{term_of}
use Rattle.row_terms.specs.Written.{filters}
use Rattle.trailcheck.specs.View.{wanted_by}
use Rattle.trailcheck.proofs.shapes.filtered_by.Given as goal

abbrev pub invariant-loop-condition : goal.invariant-loop-condition
invariant-loop-condition g l = filters (filter (wanted_by l.wanted) (drop l.condition-index l.conditions)) (term_of l.term) ≡ filters (filter (wanted_by l.wanted) l.conditions) (term_of l.fn.term)
