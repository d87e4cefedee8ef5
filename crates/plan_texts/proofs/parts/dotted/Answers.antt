use Rattle.plan_texts.proofs.Splits.{no_dot, one_dot, two_dots}
use Rattle.plan_texts.proofs.parts.dotted.Goals as goal

pub returns-in-Some-split_once : goal.returns-in-Some-split_once
returns-in-Some-split_once c = two_dots c.args.name.now (c.in-Some.alias, c.in-Some.column) c.in-Some-split_once.field-0 c.in-Some.ensures.cases c.in-Some-split_once.ensures.cases

pub returns-in-None-split_once : goal.returns-in-None-split_once
returns-in-None-split_once c = one_dot c.args.name.now (c.in-Some.alias, c.in-Some.column) c.in-Some.ensures.cases c.in-None-split_once.ensures.cases

pub returns-in-None : goal.returns-in-None
returns-in-None c = no_dot c.args.name.now c.in-None.ensures.cases
