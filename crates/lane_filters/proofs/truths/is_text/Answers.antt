use Rattle.std.proofs.Common.{sym, ◌∙◌}
use Rattle.lane_filters.proofs.Equality.{equal_texts}
use Rattle.lane_filters.proofs.truths.is_text.Goals as goal

pub returns-in-Some : goal.returns-in-Some
returns-in-Some c = rw c.in-Some.is (c.eq.ensures ∙ sym (equal_texts c.in-Some.value.now c.args.text.now))
