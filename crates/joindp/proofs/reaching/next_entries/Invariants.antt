use Rattle.std.proofs.Common.{◌≡◌, ◌&&◌, ℕ, nat_lt}
use Rattle.stats.specs.View.{members}
use Rattle.joindp.specs.Following.{may_be_next}
use Rattle.code_costs.specs.View.{problem_of}
use Rattle.joindp.proofs.reaching.next_entries.Given as goal

abbrev pub invariant-loop-entry : goal.invariant-loop-entry
invariant-loop-entry g l = (i : ℕ) → members l.next i ≡ nat_lt i l.entry && may_be_next (problem_of l.problem).setting (members l.placed) i
