use Rattle.row_expressions.proofs.build.joined.Goals as goal

pub returns-in-And : goal.returns-in-And
returns-in-And g c = rw c.in-And.is c.and_of.ensures

pub returns-in-Or : goal.returns-in-Or
returns-in-Or g c = rw c.in-Or.is c.or_of.ensures
