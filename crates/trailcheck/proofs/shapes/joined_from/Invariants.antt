use Rattle.std.proofs.Common.{◌≡◌, drop}
use Rattle.row_terms.specs.View.{term_of}
use Rattle.trailcheck.specs.Shapes as spec
use Rattle.trailcheck.specs.View.{setting_of}
use Rattle.trailcheck.proofs.shapes.joined_from.Given as goal

abbrev pub invariant-loop-step : goal.invariant-loop-step
invariant-loop-step g l = spec.joined_on (setting_of l.setting) l.placed (term_of l.term) (drop l.step-index l.steps) ≡ spec.joined_from (setting_of l.setting) l.first l.steps
