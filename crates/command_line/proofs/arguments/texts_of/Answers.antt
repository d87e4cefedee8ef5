use Rattle.std.proofs.Common.{◌∙◌}
use Rattle.std.proofs.lemmas.Result.{IfOk-weaker}
use Rattle.clap.specs.Words.{found_of}
use Rattle.command_line.proofs.Getters.{all_given}
use Rattle.command_line.proofs.arguments.texts_of.Goals as goal

pub returns-in-Some : goal.returns-in-Some
returns-in-Some c =
    IfOk-weaker c.copied.result _ _ (λ v same. same ∙ all_given (found_of c.args.found.now) c.args.name.now _ c.in-Some.ensures) c.copied.ensures

pub returns-in-None : goal.returns-in-None
returns-in-None c = rw (c.new.ensures.items) (all_given (found_of c.args.found.now) c.args.name.now _ c.in-None.ensures)
