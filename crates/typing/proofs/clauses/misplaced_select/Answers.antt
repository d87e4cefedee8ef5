use Rattle.typing.proofs.clauses.misplaced_select.Goals as goal

pub returns-in-Items : goal.returns-in-Items
returns-in-Items g c = rw (c.in-Items.is, ← c.as_slice.ensures) c.misplaced_items.ensures
