use Rattle.access.proofs.Decided.{guard_shows, all_bypasses, none_is_unpermitted}
use Rattle.access.proofs.laws.law_guard.Goals as goal

pub returns : goal.returns
returns c = record { shows = guard_shows; all = all_bypasses; none = none_is_unpermitted }
