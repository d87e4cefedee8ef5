use Rattle.std.proofs.Common.{◌≡◌, [], drop}
use Rattle.trailcheck.specs.Admissible as spec
use Rattle.trailcheck.specs.View.{setting_of}
use Rattle.trailcheck.proofs.admissible.are_allowed_steps.Given as goal

abbrev pub invariant-loop-step : goal.invariant-loop-step
invariant-loop-step g l = spec.are_allowed_steps (setting_of l.setting) l.placed (drop l.step-index l.steps) ≡ spec.are_allowed_steps (setting_of l.setting) [] l.steps
