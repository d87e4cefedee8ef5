use Rattle.std.proofs.Common.{◌≡◌, ◌<◌, ℕ, length, map, take, slice_index_or}
use Rattle.joindp.specs.declared.candidates.Candidate.{Candidate}
use Rattle.joindp.specs.Candidates.{IsCandidate}
use Rattle.code_costs.specs.View.{problem_of}
use Rattle.joindp.proofs.candidates.candidates.Given as goal

abbrev pub invariant-loop-step : goal.invariant-loop-step
invariant-loop-step g l = record {
  long : length l.candidates.items ≡ l.step-index;
  steps : map (λ c. c.step) l.candidates.items ≡ take l.step-index l.step-items;
  each : (k : ℕ) (d : Candidate) → k < l.step-index → IsCandidate (problem_of l.inputs.problem.now) l.inputs.orders.now l.set (slice_index_or l.candidates.items k d);
}
