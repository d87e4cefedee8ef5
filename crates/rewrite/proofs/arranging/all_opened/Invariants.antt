use Rattle.std.proofs.Common.{◌≡◌, ◌+◌, drop}
use Rattle.row_terms.specs.View.{term_of}
use Rattle.trailcheck.specs.Settings as settings
use Rattle.trailcheck.specs.View.{setting_of}
use Rattle.rewrite.specs.Placing as spec
use Rattle.rewrite.proofs.arranging.all_opened.Given as goal

abbrev pub invariant-loop-on : goal.invariant-loop-on
invariant-loop-on g l =
    (spec.opened_lefts (setting_of l.setting) l.entry (drop l.on-index l.setting.lefts) (term_of l.term) ≡ spec.all_opened (setting_of l.setting) l.entries)
    × (l.entry ≡ settings.inner_count (setting_of l.setting) + l.on-index)
