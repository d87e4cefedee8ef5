use Rattle.setup.proofs.explanation.hint_for.Goals as goal

pub returns-in-Some : goal.returns-in-Some
returns-in-Some g c = let known = rw (c.catalog.ensures.catalog, c.in-Some.is) at c.in_ok-reply.ensures in rw (← known) c.hint.ensures
