-- Replies of texts that pass analysis, and of texts that do not.
use Rattle.std.proofs.Common.{◌≡◌, inl, inr, ℕ, List, Option, Some, None, Result, Ok, Err, refl, sym, ap, true≢false}
use Rattle.std.specs.Option.{is_some}
use Rattle.std.specs.Result.{result_err}
use Rattle.value.specs.Datum.{Row}
use Rattle.value.specs.declared.faults.Fault.{Fault}
use Rattle.value.specs.Names.{Name}
use Rattle.row_ast.specs.Ast.{Query}
use Rattle.catalog.specs.Catalog.{Catalog}
use Rattle.resolve.specs.Resolved.{Bound}
use Rattle.memory.specs.Results.{and_then}
use Rattle.replies.specs.Reply.{Reply}
use Rattle.store.specs.Database.{Rows}
use Rattle.analysis.specs.Analysis.{admitted_query, query_read, admitted, refusal_to}
use Rattle.engine.specs.Answer.{IsAnswer, answer, headings, rows_reply, admitted_reply, reply_to}

pub reply_to_query : (cat : Catalog) (rows : Rows) (role : Name) (text : List ℕ) (q : Query) → query_read cat role text ≡ Ok q → reply_to cat rows role text ≡ admitted_reply cat rows role (admitted_query cat role q)
reply_to_query cat rows role text q is = ap (λ read. admitted_reply cat rows role (and_then read (admitted_query cat role))) is

abbrev reply_or : Reply → Option Reply → Reply
reply_or other None = other
reply_or other (Some reply) = reply

refusal_replied : (cat : Catalog) (rows : Rows) (role : Name) (refusal : Reply) (found : Result Bound Reply) → result_err found ≡ Some refusal → admitted_reply cat rows role found ≡ refusal
refusal_replied cat rows role refusal (Ok b) is = absurd (true≢false (sym (ap is_some is)))
refusal_replied cat rows role refusal (Err other) is = ap (reply_or other) is

-- a refusal is the reply, whatever the rows
pub refusal_is_reply : (cat : Catalog) (rows : Rows) (role : Name) (text : List ℕ) (refusal : Reply) → refusal_to cat role text ≡ Some refusal → reply_to cat rows role text ≡ refusal
refusal_is_reply cat rows role text refusal is = refusal_replied cat rows role refusal (admitted cat role text) is

rows_or_fault : (columns : List Name) (found : Result (List Row) Fault) → IsAnswer (rows_reply columns found)
rows_or_fault columns (Ok rows) = inl (columns, rows, refl)
rows_or_fault columns (Err fault) = inr (fault, refl)

answer_replied : (cat : Catalog) (rows : Rows) (role : Name) (found : Result Bound Reply) → result_err found ≡ None → IsAnswer (admitted_reply cat rows role found)
answer_replied cat rows role (Ok b) is = rows_or_fault (headings b.query.items) (answer cat rows role b)
answer_replied cat rows role (Err refusal) is = absurd (true≢false (ap is_some is))

-- without a refusal the reply is rows or a fault
pub answered_otherwise : (cat : Catalog) (rows : Rows) (role : Name) (text : List ℕ) → refusal_to cat role text ≡ None → IsAnswer (reply_to cat rows role text)
answered_otherwise cat rows role text is = answer_replied cat rows role (admitted cat role text) is
