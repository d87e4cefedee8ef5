-- Events: a reply and the state after it; or a refusal, which changes nothing. A reply to a text is handed in.
use Rattle.std.specs.Prelude.{ℕ, ◌+◌, Bool, not, ◌||◌, nat_eq, nat_le, List, [], ◌∷◌, ◌++◌, is_some, Option, Some, None, Result, Ok, Err, if◌then◌else◌}
use Rattle.std.specs.Str.{bytes_eq}
use Rattle.std.specs.List.{find}
use Rattle.std.specs.Map.{lookup, remove_entry, set_value}
use Rattle.value.specs.Datum.{Row}
use Rattle.value.specs.Names.{Name}
use Rattle.value.specs.declared.refusal.Refusal.{Refusal}
use Rattle.value.specs.declared.refusal.Refusal.TheVariants as r
use Rattle.csv_records.specs.Left.{records_of}
use Rattle.tables.specs.Loading.{TableRows}
use Rattle.tables.specs.declared.LoadError.{LoadError}
use Rattle.tables.specs.LoadErrors.{column_name}
use Rattle.syntax.specs.Parsing.{parsed_query, parsed_statement}
use Rattle.syntax.specs.declared.error.ParseError.{ParseError}
use Rattle.replies.specs.Reply as engine
use Rattle.catalog.specs.Catalog.{Catalog, belongs, is_role, is_superuser}
use Rattle.catalog.specs.Checks.{first_changed}
use Rattle.analysis.specs.Analysis.{refused_text}
use Rattle.store.specs.Database.{Database, changed_database, columns_in, is_named}
use Rattle.store.specs.Loads.{due_rows, with_rows}
use Rattle.sessions.specs.Reply as reply
use Rattle.sessions.specs.Reply.{Reply, refused_by}
use Rattle.sessions.specs.State.{State, Session, Cursor, advanced, current_role, has_login_room, is_full, most_counted, most_cursors, most_prepared, new_cursor, new_session, next_rows, session_numbered, with_session}

-- a reply, and the state after it
abbrev pub Step : Type 0
Step = Reply × State

-- the step of an event; a refusal in its place changes nothing
abbrev pub settled : State → Result Step Reply → Step
settled s (Ok step) = step
settled s (Err refusal) = (refusal, s)

-- a function of the session of a number; an unknown one is refused before all else
abbrev pub act_in : {X : Type 0} → (Session → Result X Reply) → Option Session → Result X Reply
act_in act None = Err (refused_by r.ConnectionDoesNotExist)
act_in act (Some session) = act session

abbrev pub in_session : {X : Type 0} → State → ℕ → (Session → Result X Reply) → Result X Reply
in_session s n act = act_in act (session_numbered n s)

-- a function of the tree of a text; a text with none is refused by its length, at the offset of its error, or by a limit
abbrev pub if_parsed : {X Y : Type 0} → Result X ParseError → (X → Result Y Reply) → Result Y Reply
if_parsed (Err e) act = Err (reply.Engine (refused_text e))
if_parsed (Ok x) act = act x

-- ---- sessions and their roles

abbrev pub opened : State → Name → State
opened s role = record s { sessions = s.sessions ++ (s.next_session, new_session role) ∷ []; next_session = s.next_session + 1 }

-- a role logs in; the reply is the number of the session
abbrev pub login : State → Name → Result Step Reply
login s role =
    if not (is_role s.database.catalog role) then Err (refused_by r.UndefinedObject)
    else if has_login_room s then Ok (reply.Session s.next_session, opened s role)
    else Err (refused_by r.ProgramLimitExceeded)

-- the session ends, with its prepared texts and its cursors
abbrev pub logout : State → ℕ → Result Step Reply
logout s n = in_session s n (λ session. Ok (reply.Done, record s { sessions = remove_entry (nat_eq n) s.sessions }))

-- a superuser may become any role, another one what it belongs to
abbrev pub may_become : Catalog → Name → Name → Bool
may_become cat login_role role = is_superuser cat login_role || belongs cat login_role role

abbrev pub set_role : State → ℕ → Name → Result Step Reply
set_role s n role = in_session s n (λ session.
    if not (is_role s.database.catalog role) then Err (refused_by r.UndefinedObject)
    else if may_become s.database.catalog session.login_role role then Ok (reply.Done, with_session n (record session { set_role = Some role }) s)
    else Err (refused_by r.InsufficientPrivilege))

-- back to the role that logged in
abbrev pub reset_role : State → ℕ → Result Step Reply
reset_role s n = in_session s n (λ session. Ok (reply.Done, with_session n (record session { set_role = None }) s))

-- ---- texts

-- the current role of a session, and the text that it asks
abbrev pub ask_text : State → ℕ → List ℕ → Result (Name × List ℕ) Reply
ask_text s n text = in_session s n (λ session. Ok (current_role session, text))

abbrev pub with_prepared : Session → Name → List ℕ → Session
with_prepared session name text = record session { prepared = session.prepared ++ (name, text) ∷ [] }

-- the text is kept by its name; the names in it are resolved where it is executed
abbrev pub prepare : State → ℕ → Name → List ℕ → Result Step Reply
prepare s n name text = in_session s n (λ session.
    if is_some (lookup (bytes_eq name) session.prepared) then Err (refused_by r.DuplicatePreparedStatement)
    else if_parsed (parsed_query text) (λ query.
    if is_full most_prepared session.prepared then Err (refused_by r.ProgramLimitExceeded)
    else Ok (reply.Done, with_session n (with_prepared session name text) s)))

abbrev pub prepared_text : Session → Option (List ℕ) → Result (Name × List ℕ) Reply
prepared_text session None = Err (refused_by r.InvalidSqlStatementName)
prepared_text session (Some text) = Ok (current_role session, text)

-- the current role of a session, and its prepared text of a name
abbrev pub execute_text : State → ℕ → Name → Result (Name × List ℕ) Reply
execute_text s n name = in_session s n (λ session. prepared_text session (lookup (bytes_eq name) session.prepared))

-- ---- cursors

-- the refusal of a new cursor, if there is one
abbrev pub cursor_refusal : Session → Name → Option Refusal
cursor_refusal session name =
    if is_some (lookup (bytes_eq name) session.cursors) then Some r.DuplicateCursor
    else if is_full most_cursors session.cursors then Some r.ProgramLimitExceeded
    else None

abbrev pub unless : {X : Type 0} → Option Refusal → X → Result X Reply
unless (Some code) x = Err (refused_by code)
unless None x = Ok x

-- the current role of a session, and the text of its new cursor
abbrev pub declare_text : State → ℕ → Name → List ℕ → Result (Name × List ℕ) Reply
declare_text s n name text = in_session s n (λ session. unless (cursor_refusal session name) (current_role session, text))

abbrev pub with_cursor : Session → Name → Cursor → Session
with_cursor session name cursor = record session { cursors = session.cursors ++ (name, cursor) ∷ [] }

-- rows are kept as they are now; any other reply makes no cursor
abbrev pub keep_rows : State → ℕ → Session → Name → engine.Reply → Step
keep_rows s n session name (engine.Rows headings rows) = (reply.Done, with_session n (with_cursor session name (new_cursor headings rows)) s)
keep_rows s n session name (engine.Refused code offset) = (reply.Engine (engine.Refused code offset), s)
keep_rows s n session name (engine.Denied column table) = (reply.Engine (engine.Denied column table), s)
keep_rows s n session name (engine.Faulted fault) = (reply.Engine (engine.Faulted fault), s)

-- the reply to the text of a new cursor
abbrev pub keep : State → ℕ → Name → engine.Reply → Result Step Reply
keep s n name given = in_session s n (λ session. unless (cursor_refusal session name) (keep_rows s n session name given))

abbrev pub fetch_from : State → ℕ → Session → Name → ℕ → Option Cursor → Result Step Reply
fetch_from s n session name count None = Err (refused_by r.InvalidCursorName)
fetch_from s n session name count (Some cursor) = Ok (
  reply.Engine (engine.Rows cursor.headings (next_rows cursor count)),
  with_session n (record session { cursors = set_value (bytes_eq name) session.cursors (advanced cursor count) }) s,
)

-- the headings and the next rows, at most so many
abbrev pub fetch : State → ℕ → Name → ℕ → Result Step Reply
fetch s n name count = in_session s n (λ session. fetch_from s n session name count (lookup (bytes_eq name) session.cursors))

abbrev pub close : State → ℕ → Name → Result Step Reply
close s n name = in_session s n (λ session.
    if is_some (lookup (bytes_eq name) session.cursors)
    then Ok (reply.Done, with_session n (record session { cursors = remove_entry (bytes_eq name) session.cursors }) s)
    else Err (refused_by r.InvalidCursorName))

-- ---- the database

abbrev pub or_refusal : Result Database Refusal → Result Database Reply
or_refusal (Ok database) = Ok database
or_refusal (Err code) = Err (refused_by code)

-- the database after the statement of a text, by a role
abbrev pub database_after : Database → Name → List ℕ → Result Database Reply
database_after database role text = if_parsed (parsed_statement text) (λ statement. or_refusal (changed_database database role statement))

abbrev pub changed_state : State → Result Database Reply → Result Step Reply
changed_state s (Ok database) = Ok (reply.Done, record s { database = database })
changed_state s (Err refusal) = Err refusal

-- a schema statement, by the current role
abbrev pub change : State → ℕ → List ℕ → Result Step Reply
change s n text = in_session s n (λ session. changed_state s (database_after s.database (current_role session) text))

abbrev pub with_loaded : State → Name → List Row → State
with_loaded s table rows = record s { database = record { catalog = s.database.catalog; tables = first_changed (is_named table) (with_rows rows) s.database.tables }; loads = s.loads + 1 }

-- an error of rows, with the names of their table and column
abbrev pub data_refusal : State → Name → LoadError → Reply
data_refusal s table e = reply.Data table (column_name (columns_in s.database.tables table) e) e

abbrev pub loaded_state : State → Name → Result (List Row) LoadError → Result Step Reply
loaded_state s name (Ok rows) = Ok (reply.Done, with_loaded s name rows)
loaded_state s name (Err e) = Err (data_refusal s name e)

abbrev pub load_into : State → Name → List ℕ → Option (Name × TableRows) → Result Step Reply
load_into s name bytes None = Err (refused_by r.UndefinedTable)
load_into s name bytes (Some table) = loaded_state s name (due_rows table.1 (records_of bytes))

-- all rows of the bytes come to the table's, or none
abbrev pub load : State → Name → List ℕ → Result Step Reply
load s name bytes =
    if nat_le most_counted s.loads then Err (refused_by r.ProgramLimitExceeded)
    else load_into s name bytes (find (is_named name) s.database.tables)
