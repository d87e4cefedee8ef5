use Rattle.command_line.proofs.Pairs.{pair_is}
use Rattle.command_line.proofs.arguments.pair_in.Goals as goal

pub returns : goal.returns
returns c = pair_is c.args.text.now c.split_once.result c.split_once.ensures.cases
