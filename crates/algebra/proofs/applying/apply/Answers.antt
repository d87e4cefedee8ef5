use Rattle.algebra.proofs.applying.apply.Goals as goal

pub returns : goal.returns
returns g c = rw (c.rewrite_of-rewrite.ensures, c.as_slice.ensures, c.as_slice-2.ensures) at c.at_node.ensures
