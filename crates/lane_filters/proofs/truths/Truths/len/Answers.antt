use Rattle.std.proofs.Common.{length, sym, ap, ◌∙◌}
use Rattle.lane_filters.proofs.Shown.{length-truths}
use Rattle.lane_filters.proofs.truths.Truths.len.Goals as goal

pub returns : goal.returns
returns g c = sym (length-truths c.self.inside.trues.items c.self.inside.nulls.items 0 c.self.inside.len) ∙ ap length c.self.view_is
