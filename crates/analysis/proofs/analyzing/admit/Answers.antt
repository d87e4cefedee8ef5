use Rattle.analysis.proofs.analyzing.admit.Goals as goal

pub returns-in-Ok : goal.returns-in-Ok
returns-in-Ok g c = rw c.in-Ok.ensures c.unless_denied.ensures
