use Rattle.report.proofs.finishing.finish.Goals as goal

-- marks of which none is made are marks of the query
pub returns : goal.returns
returns g c = c.finish_marked.ensures c.in_ok-marks.ensures
