use Rattle.std.proofs.Common.{◌++◌, ◌∷◌, [], ap, sym, ◌∙◌}
use Rattle.trailcheck.proofs.Numbers.{numbers_more}
use Rattle.trailcheck.proofs.shapes.first_entries.Goals as goal

pub loop-entry-preserved : goal.loop-entry-preserved
loop-entry-preserved g c = c.in_ok-push.ensures.ok ∙ ap (λ l. l ++ c.loop-entry.entry ∷ []) c.loop-entry.invariant ∙ sym (numbers_more c.loop-entry.entry)
