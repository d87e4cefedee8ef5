use Rattle.report.proofs.gathered.Gathered.add.Goals as goal

pub returns-clause-taken : goal.returns-clause-taken
returns-clause-taken g c = λ kept calls marks h. c.put.ensures kept calls (c.in_ok-make_kept.ensures marks) h
