use Rattle.std.proofs.Common.{◌≡◌, ◌++◌, ◌-◌, filter}
use Rattle.std.specs.List.{range_with_len}
use Rattle.row_terms.specs.Terms as terms
use Rattle.row_terms.specs.View.{term_of}
use Rattle.algebra.proofs.runs.emptied.Given as goal

abbrev pub invariant-loop-entry : goal.invariant-loop-entry
invariant-loop-entry g l = l.entries ++ filter (terms.covers (term_of l.term)) (range_with_len l.entry (l.count - l.entry)) ≡ filter (terms.covers (term_of l.term)) (range_with_len 0 l.count)
