use Rattle.rewrite.proofs.placing.+push_clearing.Given as goal

abbrev pub decreases-push_clearing : goal.decreases-push_clearing
decreases-push_clearing g l = l.filters
