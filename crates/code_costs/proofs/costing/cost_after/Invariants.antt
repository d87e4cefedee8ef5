use Rattle.std.proofs.Common.{◌≡◌, ◌≤◌, ◌*◌, ◌^◌, ℕ, List, drop, nat_lt, true}
use Rattle.std.specs.List.{list_all}
use Rattle.stats.specs.View.{members}
use Rattle.trailcheck.specs.Entries.{is_among}
use Rattle.trailcheck.specs.Shapes.{entry_index}
use Rattle.code_costs.specs.Best.{estimates}
use Rattle.code_costs.specs.Cost as spec
use Rattle.code_costs.specs.View.{problem_of}
use Rattle.code_costs.proofs.Costs.{IsPart}
use Rattle.code_costs.proofs.costing.cost_after.Given as goal

abbrev pub invariant-loop-step : goal.invariant-loop-step
invariant-loop-step g l = record {
  part : (placed : List ℕ) → ((i : ℕ) → is_among placed i ≡ members l.fn.entries i)
      → IsPart (estimates (problem_of l.problem)) (members l.placed) l.order l.total (drop l.step-index l.steps) (spec.cost_after (estimates (problem_of l.problem)) placed l.fn.first l.steps);
  below : list_all (λ s. nat_lt (entry_index s) 12) (drop l.step-index l.steps) ≡ true;
  small : l.total ≤ l.step-index * 2 ^ 81;
}
