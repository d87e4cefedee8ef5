use Rattle.std.proofs.Common.{◌≡◌, ◌^◌, ◌<◌, ◌≤◌, ℕ, length, slice_index_or}
use Rattle.code_costs.specs.Best.{estimates}
use Rattle.code_costs.specs.Cost.{size}
use Rattle.joindp.specs.Search.{set_of}
use Rattle.code_costs.specs.View.{problem_of}
use Rattle.joindp.proofs.searching.sizes.Given as goal

abbrev pub invariant-loop-bits : goal.invariant-loop-bits
invariant-loop-bits g l = record {
  long : length l.sizes ≡ l.bits;
  each : (set d : ℕ) → set < l.bits → (slice_index_or l.sizes set d ≡ size (estimates (problem_of l.problem)) (set_of set)) × (slice_index_or l.sizes set d ≤ 2 ^ 40);
}
