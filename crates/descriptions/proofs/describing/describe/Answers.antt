use Rattle.std.proofs.Common.{◌≡◌, ◌∙◌, Ok, Err, IfOk, subst, sym}
use Rattle.row_ast.specs.View.{query_of}
use Rattle.replies.specs.Reply.{Reply}
use Rattle.replies.specs.View.{reply_of}
use Rattle.analysis.proofs.Admitted.{refused_at_once}
use Rattle.descriptions.proofs.Described.{described_as_read}
use Rattle.descriptions.proofs.describing.describe.Goals as goal

pub returns-in-Ok-Ok-clause-reply : goal.returns-in-Ok-Ok-clause-reply
returns-in-Ok-Ok-clause-reply g c =
    let read = (rw (c.in-Ok-Ok.field-0-is) at c.in-Ok-Ok.ensures.read) in
    subst (λ (stated : Reply). IfOk c.describe_query-reply.result (λ reply. reply_of reply ≡ stated)) (described_as_read c.args.catalog.now c.args.role.now c.args.text.now (Ok (query_of c.in-Ok-Ok.query)) read) c.describe_query-reply.ensures

pub returns-in-Ok-Ok-clause-at_once : goal.returns-in-Ok-Ok-clause-at_once
returns-in-Ok-Ok-clause-at_once g c = λ e.
    let read = (rw (c.in-Ok-Ok.field-0-is) at c.in-Ok-Ok.ensures.read) in
    let refused = sym (refused_at_once c.args.catalog.now c.args.role.now c.args.text.now e).1 ∙ sym read in absurd (cc)

pub returns-in-Ok-Err-clause-reply : goal.returns-in-Ok-Err-clause-reply
returns-in-Ok-Err-clause-reply g c =
    let read = (rw (c.in-Ok-Err.field-0-is) at c.in-Ok-Err.ensures.read) in
    described_as_read c.args.catalog.now c.args.role.now c.args.text.now (Err (reply_of c.in-Ok-Err.reply)) read
