use Rattle.std.proofs.Common.{subst, sym, ◌∙◌}
use Rattle.memory.specs.Gives.{Gives}
use Rattle.answer_rows.specs.Growing.{Growing}
use Rattle.report.proofs.SameCombinations.{same_answer}
use Rattle.report.proofs.Taking.{answer_of_fault, answer_of_kept, kept_in}
use Rattle.report.proofs.answering.Answering.end.Goals as goal

pub returns-in-None : goal.returns-in-None
returns-in-None g c = λ w these same h p.
    subst (Gives (λ (rows : Growing). rows.rows) c.end.result)
    (sym (answer_of_kept w c.args.self these h c.in-None.is) ∙ same_answer w.role w.query these same p)
    (kept_in w c.args.self (Gives (λ (rows : Growing). rows.rows) c.end.result) these h c.end.ensures)

pub returns-in-Some : goal.returns-in-Some
returns-in-Some g c = λ w these same h p.
    sym (same_answer w.role w.query these same p) ∙ answer_of_fault w c.args.self these c.in-Some.fault h c.in-Some.is
