use Rattle.plan_texts.specs.View.{plan_of}
use Rattle.plan_texts.proofs.Additions.{at_end, before_end}
use Rattle.plan_texts.proofs.draft.Draft.finish.Goals as goal

pub returns-then-is_empty : goal.returns-then-is_empty
returns-then-is_empty g c = rw c.in-Whole.is (at_end c.args.next (plan_of c.in-Whole.plan) c.args.rest.now c.if-is_empty.ensures)

pub returns-in-Whole : goal.returns-in-Whole
returns-in-Whole g c = rw c.in-Whole.is (before_end c.args.next (plan_of c.in-Whole.plan) c.args.rest.now c.if-is_empty.ensures)
