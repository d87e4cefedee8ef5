use Rattle.lane_filters.proofs.filters.compared_by_lanes.Goals as goal

pub returns-in-Some-clause-truths : goal.returns-in-Some-clause-truths
returns-in-Some-clause-truths g c = (rw c.in-Some.is at c.in_ok-truths.ensures.truths) c.args.role.now
