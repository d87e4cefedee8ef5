use Rattle.plan_texts.proofs.Splits.{cut_is}
use Rattle.plan_texts.proofs.parts.cut.Goals as goal

pub returns : goal.returns
returns c = cut_is c.args.line.now c.split_once.result c.split_once.ensures.cases
