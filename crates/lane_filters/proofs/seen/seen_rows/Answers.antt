use Rattle.std.proofs.Common.{◌∙◌}
use Rattle.lane_filters.proofs.seen.seen_rows.Goals as goal

pub returns-in-Some : goal.returns-in-Some
returns-in-Some g c = c.into_mask.ensures ∙ (rw c.in-Some.is at c.in_ok-truths.ensures)
