use Rattle.rewrite.proofs.turning.+push_upward.Given as goal

abbrev pub decreases-push_upward : goal.decreases-push_upward
decreases-push_upward g l = l.count
