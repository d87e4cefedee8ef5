use Rattle.setup.proofs.schema.apply_schema.Goals as goal

pub returns-in-Ok-clause-applied : goal.returns-in-Ok-clause-applied
returns-in-Ok-clause-applied g c = rw (c.in-Ok.ensures.reading, ← c.as_slice.ensures) c.apply_statements.ensures.applied

pub returns-in-Ok-clause-stops : goal.returns-in-Ok-clause-stops
returns-in-Ok-clause-stops g c = rw (c.in-Ok.ensures.reading, ← c.as_slice.ensures) c.apply_statements.ensures.stops
