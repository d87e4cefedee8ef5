-- The audit of a plan's text for a role's query.
use Rattle.std.specs.Prelude.{ℕ, List, ◌++◌, length, Result, Ok, Err, codes, if◌then◌else◌}
use Rattle.std.specs.Fmt.{decimal}
use Rattle.value.specs.Names.{Name}
use Rattle.catalog.specs.Catalog.{Catalog}
use Rattle.scope.specs.Entry.{Entry}
use Rattle.row_terms.specs.Terms.{Term}
use Rattle.row_terms.specs.Written.{written}
use Rattle.trailcheck.specs.Settings.{Setting}
use Rattle.trailcheck.specs.Verdicts.{verdict}
use Rattle.trailcheck.specs.declared.verdict.Reason.{Reason}
use Rattle.trailcheck.specs.declared.verdict.Reason.TheVariants as reason
use Rattle.trailcheck.specs.declared.verdict.Verdict.{Verdict}
use Rattle.trailcheck.specs.declared.verdict.Verdict.TheVariants.{Accepted, Refused}
use Rattle.plan_texts.specs.Plans.{Plan}
use Rattle.plan_texts.specs.Reading.{plan_at}
use Rattle.bound_plans.specs.Entries.{plan_entries}
use Rattle.bound_plans.specs.LeftJoins.{is_of_query, plain_code}
use Rattle.resolve.specs.Resolved.{Bound}
use Rattle.replies.specs.Reply.{Reply, reply_status}
use Rattle.replies.specs.ReplyText.{reply_text}
use Rattle.analysis.specs.Analysis.{admitted}
use Rattle.engine.specs.Settings.{setting}

pub data Audit : Type 0 where
  -- the refusal or denial of the text
  Replied : (reply : Reply) → Audit
  -- the first line of the plan that cannot be read
  Unreadable : (line : ℕ) → Audit
  -- the verdict on the plan
  Judged : (verdict : Verdict) → Audit

-- ---- the verdict

-- the checker's verdict on code and trail, where the filters are the planning list, and ONs and words those of the left joined entries
abbrev pub judged : Setting → (written : Term) → List Entry → Plan → Verdict
judged at written entries p = if is_of_query entries at.conditions at.lefts p then verdict at written p.trail (plain_code p.code) else Refused record { line = 0; reason = reason.Code }

abbrev pub audit_of : Catalog → Name → Bound → Result Plan ℕ → Audit
audit_of cat role b (Err line) = Unreadable line
audit_of cat role b (Ok p) = Judged (judged (setting cat role b) (written (length b.entries) b.query) b.entries p)

abbrev pub admitted_audit : Catalog → Name → (plan : List ℕ) → Result Bound Reply → Audit
admitted_audit cat role plan (Err refusal) = Replied refusal
admitted_audit cat role plan (Ok b) = audit_of cat role b (plan_at (plan_entries b.entries) plan)

-- the refusal or denial of a role's text, or else what its plan's text is
abbrev pub audit : Catalog → Name → (text plan : List ℕ) → Audit
audit cat role text plan = admitted_audit cat role plan (admitted cat role text)

-- ---- its text and its status

abbrev pub reason_number : Reason → ℕ
reason_number reason.Limit = 1
reason_number reason.NoNode = 2
reason_number reason.Misfit = 3
reason_number reason.Unmet = 4
reason_number reason.Code = 5
reason_number reason.End = 6

abbrev pub verdict_text : Verdict → List ℕ
verdict_text Accepted = codes "accepted\n"
verdict_text (Refused r) = codes "refused line " ++ decimal r.line ++ codes " reason " ++ decimal (reason_number r.reason) ++ codes "\n"

abbrev pub audit_text : Audit → List ℕ
audit_text (Replied reply) = reply_text reply
audit_text (Unreadable line) = codes "unreadable line " ++ decimal line ++ codes "\n"
audit_text (Judged v) = verdict_text v

abbrev pub verdict_status : Verdict → ℕ
verdict_status Accepted = 0
verdict_status (Refused r) = 3

abbrev pub audit_status : Audit → ℕ
audit_status (Replied reply) = reply_status reply
audit_status (Unreadable line) = 3
audit_status (Judged v) = verdict_status v
