-- The reply to a role's text.
use Rattle.std.specs.Prelude.{◌≡◌, ◌⊎◌, ℕ, List, map, Result, Ok, Err}
use Rattle.value.specs.Datum.{Row}
use Rattle.value.specs.declared.faults.Fault.{Fault}
use Rattle.value.specs.Names.{Name}
use Rattle.scope.specs.Entry.{Entry}
use Rattle.expr.specs.BoundQuery.{BoundItem}
use Rattle.catalog.specs.Catalog.{Catalog}
use Rattle.access.specs.Access.{visible}
use Rattle.resolve.specs.Resolved.{Bound}
use Rattle.report.specs.Answer.{answer_over}
use Rattle.replies.specs.Reply as reply
use Rattle.replies.specs.Reply.{Reply}
use Rattle.store.specs.Database.{Rows}
use Rattle.analysis.specs.Analysis.{admitted}

-- ---- rows

-- of each entry the rows that the role sees
abbrev pub seen : Catalog → Rows → Name → List Entry → List (List Row)
seen cat rows role entries = map (λ e. visible cat role e.table (rows e.table.name)) entries

-- the rows of the query over the combinations of rows that the role sees, or its first fault
abbrev pub answer : Catalog → Rows → Name → Bound → Result (List Row) Fault
answer cat rows role b = answer_over role b.query (seen cat rows role b.entries)

-- ---- replies

abbrev pub headings : List BoundItem → List Name
headings items = map (λ i. i.heading) items

abbrev pub rows_reply : List Name → Result (List Row) Fault → Reply
rows_reply columns (Ok rows) = reply.Rows columns rows
rows_reply columns (Err fault) = reply.Faulted fault

abbrev pub answer_reply : Catalog → Rows → Name → Bound → Reply
answer_reply cat rows role b = rows_reply (headings b.query.items) (answer cat rows role b)

abbrev pub admitted_reply : Catalog → Rows → Name → Result Bound Reply → Reply
admitted_reply cat rows role (Err refusal) = refusal
admitted_reply cat rows role (Ok b) = answer_reply cat rows role b

-- the reply to a role's text: its refusal or denial, which no row decides, or else the rows or the first fault of its evaluation
abbrev pub reply_to : Catalog → Rows → Name → List ℕ → Reply
reply_to cat rows role text = admitted_reply cat rows role (admitted cat role text)

-- it is rows, or the fault of an evaluation
abbrev pub IsAnswer : Reply → Type 0
IsAnswer given = ((columns : List Name) × (rows : List Row) × given ≡ reply.Rows columns rows) ⊎ ((fault : Fault) × given ≡ reply.Faulted fault)
