use Rattle.std.proofs.Common.{◌≡◌, ◌+◌, drop}
use Rattle.row_terms.specs.View.{term_of}
use Rattle.trailcheck.specs.Settings as settings
use Rattle.trailcheck.specs.Shapes as spec
use Rattle.trailcheck.specs.View.{setting_of}
use Rattle.trailcheck.proofs.shapes.left_over.Given as goal

abbrev pub invariant-loop-on : goal.invariant-loop-on
invariant-loop-on g l =
    (spec.left_over (setting_of l.setting) l.entry (drop l.on-index l.setting.lefts) (term_of l.term) ≡ spec.left_over (setting_of l.setting) (settings.inner_count (setting_of l.setting)) l.setting.lefts (term_of l.fn.term))
    × (l.entry ≡ settings.inner_count (setting_of l.setting) + l.on-index)
