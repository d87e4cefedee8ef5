use Rattle.std.proofs.Common.{◌∙◌}
use Rattle.clap.specs.Words.{found_of}
use Rattle.command_line.proofs.Getters.{flag}
use Rattle.command_line.proofs.arguments.is_set.Goals as goal

pub returns : goal.returns
returns c = c.unwrap_or.ensures ∙ flag _ (found_of c.args.found.now) c.args.name.now c.get_one.result c.get_one.ensures.none c.get_one.ensures.value
