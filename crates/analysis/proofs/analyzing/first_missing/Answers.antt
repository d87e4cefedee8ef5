use Rattle.analysis.proofs.analyzing.first_missing.Goals as goal

pub returns : goal.returns
returns g c = rw (c.as_slice.ensures, c.deref.ensures) at c.missing.ensures
