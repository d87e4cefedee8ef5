use Rattle.std.proofs.Common.{◌∙◌, refl, subst}
use Rattle.output.proofs.Sending.{line_sent, text_sent}
use Rattle.engine.specs.Database.{rows_of}
use Rattle.engine.specs.Serving.{IsExplained}
use Rattle.engine.proofs.ExplainedTexts.{only_memory}
use Rattle.engine.proofs.Readable.{reads_sees}
use Rattle.setup.specs.PlanTree.{explained_tree}
use Rattle.setup.proofs.PlanTree.{same_tree}
use Rattle.setup.proofs.plan_tree.explain_tree.Goals as goal

pub returns-in-Ok-clause-sent : goal.returns-in-Ok-clause-sent
returns-in-Ok-clause-sent g c =
    let s = c.send.ensures in
    let due = explained_tree c.args.store.now.catalog (rows_of c.args.store.now) c.args.role.now c.args.text.now in
    text_sent s.whole s.failed s.fine s.beginning (c.deref.ensures.value ∙ c.in-Ok.ensures.0) c.in-Ok.ensures.1 (only_memory due)

pub returns-in-Ok-clause-hidden : goal.returns-in-Ok-clause-hidden
returns-in-Ok-clause-hidden g c = λ other same enough good.
    subst (IsExplained (g.W.Out.taken c.args.out.now) (g.W.Out.taken c.send.new.out) c.send.result)
    (same_tree c.args.store.now.catalog c.args.role.now c.args.text.now (rows_of c.args.store.now) other same)
    ((returns-in-Ok-clause-sent g c).answered enough good)

pub returns-in-Ok-clause-ungranted : goal.returns-in-Ok-clause-ungranted
returns-in-Ok-clause-ungranted g c = λ other same enough good.
    returns-in-Ok-clause-hidden g c other (reads_sees c.args.store.now.catalog c.args.role.now c.args.text.now (rows_of c.args.store.now) other same) enough good

pub returns-in-Err-clause-sent : goal.returns-in-Err-clause-sent
returns-in-Err-clause-sent g c =
    let s = c.send-in-Err.ensures in
    line_sent s.whole s.failed s.fine s.beginning c.as_slice.ensures refl

pub returns-in-Err-clause-hidden : goal.returns-in-Err-clause-hidden
returns-in-Err-clause-hidden g c = λ other same enough good.
    subst (IsExplained (g.W.Out.taken c.args.out.now) (g.W.Out.taken c.send-in-Err.new.out) c.send-in-Err.result)
    (same_tree c.args.store.now.catalog c.args.role.now c.args.text.now (rows_of c.args.store.now) other same)
    ((returns-in-Err-clause-sent g c).answered enough good)

pub returns-in-Err-clause-ungranted : goal.returns-in-Err-clause-ungranted
returns-in-Err-clause-ungranted g c = λ other same enough good.
    returns-in-Err-clause-hidden g c other (reads_sees c.args.store.now.catalog c.args.role.now c.args.text.now (rows_of c.args.store.now) other same) enough good
