-- The views of the Rust types of requests as spec data.
use Rattle.std.specs.Prelude.{List, map}
use Rattle.clap.specs.Words.{Text}
use Rattle.command_line.specs.Requests.{QueryText, Given, File, QueryArguments, VerifyArguments, SessionArguments, MatrixArguments, ChangesArguments, Request, Query, Explain, Verify, Session, Matrix, Changes, Codes}
use Rattle.command_line.specs.declared.arguments.QueryText as declared_text
use Rattle.command_line.specs.declared.arguments.QueryText.TheVariants as text
use Rattle.command_line.specs.declared.arguments.QueryArguments as declared_query
use Rattle.command_line.specs.declared.arguments.VerifyArguments as declared_audit
use Rattle.command_line.specs.declared.arguments.SessionArguments as declared_session
use Rattle.command_line.specs.declared.arguments.MatrixArguments as declared_matrix
use Rattle.command_line.specs.declared.arguments.ChangesArguments as declared_changes
use Rattle.command_line.specs.declared.arguments.Allowed as declared_pair
use Rattle.command_line.specs.declared.arguments.Request as declared
use Rattle.command_line.specs.declared.arguments.Request.TheVariants as request

abbrev pub text_of : declared_text.QueryText → QueryText
text_of (text.Given given) = Given given.now
text_of (text.File path) = File path.now

abbrev pub query_of : declared_query.QueryArguments → QueryArguments
query_of q = record {
  schema = q.schema.now;
  dir = q.dir.now;
  role = q.role.now;
  text = text_of q.text;
  explain_refusal = q.explain_refusal;
}

abbrev pub audit_of : declared_audit.VerifyArguments → VerifyArguments
audit_of a = record { schema = a.schema.now; role = a.role.now; plan = a.plan.now; text = text_of a.text }

abbrev pub session_of : declared_session.SessionArguments → SessionArguments
session_of s = record { schema = s.schema.now; dir = s.dir.now; script = s.script.now; frames = s.frames }

abbrev pub matrix_of : declared_matrix.MatrixArguments → MatrixArguments
matrix_of m = record { schema = m.schema.now; dir = m.dir.now; roles = map (λ r. r.now) m.roles.items; format = m.format }

abbrev pub allowed_of : declared_pair.Allowed → Text × Text
allowed_of p = (p.role.now, p.table.now)

abbrev pub changes_of : declared_changes.ChangesArguments → ChangesArguments
changes_of c = record { before = c.before.now; after = c.after.now; dir = c.dir.now; allowed = map allowed_of c.allowed.items; format = c.format }

abbrev pub request_of : declared.Request → Request
request_of (request.Query query format) = Query (query_of query) format
request_of (request.Explain query format) = Explain (query_of query) format
request_of (request.Verify audit) = Verify (audit_of audit)
request_of (request.Session session) = Session (session_of session)
request_of (request.Matrix matrix) = Matrix (matrix_of matrix)
request_of (request.Changes changes) = Changes (changes_of changes)
request_of request.Codes = Codes
