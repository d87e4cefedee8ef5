use Rattle.std.proofs.lemmas.Result.{IfOk-weaker}
use Rattle.command_line.proofs.Reading.{read}
use Rattle.command_line.proofs.arguments.read_words.Goals as goal

pub returns-clause-asked : goal.returns-clause-asked
returns-clause-asked c =
    IfOk-weaker c.accepted.result _ _ (λ r same. read c.in_ok-asked.asked r c.in_ok-matches.matches _ _ same c.in_ok-asked.ensures c.in_ok-matches.ensures.ok.2 c.in_ok-command.ensures)
    c.accepted.ensures.same
