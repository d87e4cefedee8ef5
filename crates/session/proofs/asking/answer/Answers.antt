use Rattle.std.proofs.Common.{sym}
use Rattle.engine.specs.QueryView.{query_of}
use Rattle.sessions.proofs.AtOnce.{never_read}
use Rattle.session.proofs.asking.answer.Goals as goal

pub returns-in-Ok-Ok-clause-at_once : goal.returns-in-Ok-Ok-clause-at_once
returns-in-Ok-Ok-clause-at_once g c = λ e.
    let read = (rw (c.catalog.ensures.catalog, c.store.ensures, c.in-Ok-Ok.field-0-is) at c.in-Ok-Ok.ensures.read) in
    absurd (never_read c.args.sessions.now.database.catalog c.args.role.now c.args.text.now (query_of c.in-Ok-Ok.query) e (sym read))
