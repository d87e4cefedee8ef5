use Rattle.access.proofs.requirements.needed.Goals as goal

pub returns : goal.returns
returns g c = rw (c.as_slice.ensures, c.in_ok-mentions.ensures) at c.required.ensures
