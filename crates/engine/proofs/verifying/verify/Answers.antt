use Rattle.std.proofs.Common.{◌∙◌, refl}
use Rattle.output.proofs.Sending.{line_sent, text_sent}
use Rattle.engine.specs.Audits.{audit}
use Rattle.engine.proofs.Judging.{only_memory}
use Rattle.engine.proofs.verifying.verify.Goals as goal

pub returns-in-Ok : goal.returns-in-Ok
returns-in-Ok g c =
    let s = c.send.ensures in
    let due = audit c.args.catalog.now c.args.role.now c.args.text.now c.args.plan.now in
    record { sent = text_sent s.whole s.failed s.fine s.beginning (c.deref.ensures.value ∙ c.in-Ok.ensures.0) c.in-Ok.ensures.1 (only_memory due) }

pub returns-in-Err : goal.returns-in-Err
returns-in-Err g c =
    let s = c.send-in-Err.ensures in
    record { sent = line_sent s.whole s.failed s.fine s.beginning c.as_slice.ensures refl }
