use Rattle.plan_texts.proofs.draft.Draft.with_line.Goals as goal

pub returns-in-Costed : goal.returns-in-Costed
returns-in-Costed g c = rw c.in-Costed.is c.costed_with.ensures

pub returns-in-Conditioned : goal.returns-in-Conditioned
returns-in-Conditioned g c = rw c.in-Conditioned.is c.conditioned_with.ensures

pub returns-in-Coded : goal.returns-in-Coded
returns-in-Coded g c = rw c.in-Coded.is c.coded_with.ensures

pub returns-in-Whole : goal.returns-in-Whole
returns-in-Whole g c = rw c.in-Whole.is c.whole_with.ensures
