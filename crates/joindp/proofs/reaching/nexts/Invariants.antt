use Rattle.std.proofs.Common.{◌≡◌, ◌<◌, ◌&&◌, ℕ, nat_lt, true, length, slice_index_or}
use Rattle.joindp.specs.Following.{may_be_next}
use Rattle.joindp.specs.Search.{entry_count, is_reached, set_of}
use Rattle.code_costs.specs.View.{problem_of}
use Rattle.joindp.proofs.reaching.nexts.Given as goal

abbrev pub invariant-loop-set : goal.invariant-loop-set
invariant-loop-set g l = record {
  long : length l.nexts ≡ l.set;
  each : (t d : ℕ) → t < l.set → is_reached (entry_count (problem_of l.problem)) l.nexts t ≡ true → (i : ℕ) → set_of (slice_index_or l.nexts t d) i ≡ nat_lt i (entry_count (problem_of l.problem)) && may_be_next (problem_of l.problem).setting (set_of t) i;
}
