use Rattle.trailcheck.proofs.shapes.with_entry.Goals as goal

pub returns : goal.returns
returns g c = rw (c.as_slice.ensures, c.in_ok-both.ensures, c.in_ok-next.ensures) at c.filtered_by.ensures
