use Rattle.trailcheck.proofs.entries.joins.Goals as goal

pub returns : goal.returns
returns g c = rw (c.as_slice.ensures, c.in_ok-columns.ensures) at c.are_joining.ensures
