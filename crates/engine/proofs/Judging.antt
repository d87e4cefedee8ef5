-- The verdict on a plan whose filters, ONs and words are those of the query, and the audits that give the status of memory.
use Rattle.std.proofs.Common.{◌≡◌, ◌∙◌, Bool, true, if◌then◌else◌, List, sym, ap, arith}
use Rattle.row_terms.specs.Terms.{Term}
use Rattle.trailcheck.specs.Settings.{Setting}
use Rattle.trailcheck.specs.Verdicts.{verdict}
use Rattle.trailcheck.specs.declared.verdict.Reason.TheVariants as reason
use Rattle.trailcheck.specs.declared.verdict.Verdict.{Verdict}
use Rattle.trailcheck.specs.declared.verdict.Verdict.TheVariants as verdicts
use Rattle.plan_texts.specs.Plans.{Plan}
use Rattle.bound_plans.specs.LeftJoins.{is_of_query, plain_code}
use Rattle.scope.specs.Entry.{Entry}
use Rattle.replies.specs.Reply.{no_memory}
use Rattle.replies.specs.ReplyText.{reply_text}
use Rattle.replies.proofs.Statuses.{only_no_memory}
use Rattle.engine.specs.Audits.{Audit, Replied, Unreadable, Judged, audit_status, audit_text, judged}

pub judged_is : (at : Setting) (x : Term) (es : List Entry) (p : Plan) (b : Bool) (v : Verdict) → b ≡ is_of_query es at.conditions at.lefts p → b ≡ true → v ≡ verdict at x p.trail (plain_code p.code) → v ≡ judged at x es p
judged_is at x es p b v is holds h =
    h ∙ ap (λ t. if t then verdict at x p.trail (plain_code p.code) else verdicts.Refused record { line = 0; reason = reason.Code }) (sym holds ∙ is)

-- an audit of that status is out of memory
pub only_memory : (a : Audit) → audit_status a ≡ 7 → audit_text a ≡ reply_text no_memory
only_memory (Replied reply) is = ap reply_text (only_no_memory reply is)
only_memory (Unreadable line) is = absurd (omega arith)
only_memory (Judged verdicts.Accepted) is = absurd (omega arith)
only_memory (Judged (verdicts.Refused r)) is = absurd (omega arith)
