-- The views of the Rust types of audits as spec data.
use Rattle.replies.specs.View.{reply_of}
use Rattle.engine.specs.Audits as spec
use Rattle.engine.specs.Audits.{Audit}
use Rattle.engine.specs.declared.auditing.Audit as declared
use Rattle.engine.specs.declared.auditing.Audit.TheVariants.{Replied, Unreadable, Judged}

abbrev pub audit_of : {A : Type 0} → declared.Audit A → Audit
audit_of (Replied reply) = spec.Replied (reply_of reply)
audit_of (Unreadable line) = spec.Unreadable line
audit_of (Judged verdict) = spec.Judged verdict
