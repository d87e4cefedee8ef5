use Rattle.expr.proofs.Walks.{and_is}
use Rattle.expr.proofs.Conjoined.{members_of}
use Rattle.expr.proofs.conjuncts.push_conjuncts.Goals as goal

pub returns-in-And : goal.returns-in-And
returns-in-And g c = rw (and_is c.args.predicate.now c.in-And.offset c.in-And.members c.deref.result.now c.deref.ensures.value c.in-And.is, members_of c.deref.result.now) c.push_members.ensures
