use Rattle.answer_rows.proofs.comparing.cmp_by_key.Goals as goal

pub returns-then-key : goal.returns-then-key
returns-then-key g c = rw c.if-key.true c.cmp_cells.ensures
