-- The reply is the same in two contents that are the same to the role.
use Rattle.std.proofs.Common.{◌≡◌, ℕ, List, refl, ap, Result, Ok, Err}
use Rattle.value.specs.Names.{Name}
use Rattle.catalog.specs.Catalog.{Catalog}
use Rattle.resolve.specs.Resolved.{Bound}
use Rattle.replies.specs.Reply.{Reply}
use Rattle.report.specs.Restricted as tables
use Rattle.report.proofs.HiddenRows.{same_answer_over}
use Rattle.store.specs.Database.{Rows}
use Rattle.analysis.specs.Analysis.{admitted}
use Rattle.engine.specs.Answer.{seen, headings, rows_reply, admitted_reply, reply_to}
use Rattle.engine.specs.Hidden.{SeesSame}

same_admitted : (cat : Catalog) (role : Name) (one other : Rows) (found : Result Bound Reply) →
    ((b : Bound) → found ≡ Ok b → tables.SeesSame b.query (seen cat one role b.entries) (seen cat other role b.entries)) → admitted_reply cat one role found ≡ admitted_reply cat other role found
same_admitted cat role one other (Err refusal) same = refl
same_admitted cat role one other (Ok b) same =
    ap (rows_reply (headings b.query.items)) (same_answer_over role b.query (seen cat one role b.entries) (seen cat other role b.entries) (same b refl))

-- rows that the role does not see make no difference
pub same_reply : (cat : Catalog) (role : Name) (text : List ℕ) (one other : Rows) → SeesSame cat role text one other → reply_to cat one role text ≡ reply_to cat other role text
same_reply cat role text one other same = same_admitted cat role one other (admitted cat role text) same
