use Rattle.std.proofs.Common.{Some, None, arith}
use Rattle.std.proofs.lemmas.Str.Pattern.{split_once_first}
use Rattle.plan_texts.proofs.Cuts.{cut_some, cut_none}
use Rattle.plan_texts.proofs.parts.next_part.Goals as goal

pub returns-in-Some-clause-part : goal.returns-in-Some-clause-part
returns-in-Some-clause-part c = let m = split_once_first 32 c.args.line.now (Some (c.in-Some.part, c.in-Some.rest)) c.in-Some.ensures.cases (omega arith) in cut_some c.args.line.now c.in-Some.part.now c.in-Some.rest.now m.0 m.1 m.2

pub returns-in-None-clause-part : goal.returns-in-None-clause-part
returns-in-None-clause-part c = cut_none c.args.line.now (split_once_first 32 c.args.line.now None c.in-None.ensures.cases (omega arith))
