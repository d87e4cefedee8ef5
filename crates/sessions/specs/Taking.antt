-- The contracts of events.
use Rattle.std.specs.Prelude.{◌≡◌, ⊤, IsOk, ℕ, List, Some, Result, Ok, Err}
use Rattle.std.specs.Str.{bytes_eq}
use Rattle.std.specs.Map.{lookup, set_value}
use Rattle.memory.specs.declared.failure.Failure.{Failure}
use Rattle.memory.specs.declared.failure.Failure.TheVariants as failure
use Rattle.value.specs.Names.{Name}
use Rattle.value.specs.declared.refusal.Refusal.{Refusal}
use Rattle.syntax.specs.declared.error.ParseError.{ParseError}
use Rattle.replies.specs.Reply as engine
use Rattle.store.specs.Database.{Database}
use Rattle.sessions.specs.declared.reply.Reply as declared
use Rattle.sessions.specs.Reply as reply
use Rattle.sessions.specs.Reply.{Reply, refused_by}
use Rattle.sessions.specs.View.{reply_of}
use Rattle.sessions.specs.State.{State, Session, Cursor, advanced, next_rows, session_numbered, with_session}
use Rattle.sessions.specs.Events.{Step, settled}

-- the reply and the new state are those of the stated step
abbrev pub IsTaken : Result Step Reply → State → State → Reply → Type 0
IsTaken stated old new reply = (reply ≡ (settled old stated).0) × (new ≡ (settled old stated).1)

-- the same of a call; where memory runs out nothing changes
abbrev pub Takes : {A E : Type 0} → Result Step Reply → State → State → Result (declared.Reply A) E → Type 0
Takes stated old new (Ok reply) = IsTaken stated old new (reply_of reply)
Takes stated old new (Err e) = new ≡ old

-- the view of a role and a text that is to be asked
abbrev pub asked_of : {X : Type 0} → (X → List ℕ) → Result (X × X) Refusal → Result (Name × List ℕ) Reply
asked_of text (Ok asked) = Ok (text asked.0, text asked.1)
asked_of text (Err code) = Err (refused_by code)

-- a fetch from the cursor of a name, if it is there: its headings and its next rows, and the cursor after them
abbrev pub Fetches : Session → Session → Name → ℕ → engine.Reply → Type 0
Fetches old new name count given = (cursor : Cursor) → lookup (bytes_eq name) old.cursors ≡ Some cursor
    → (given ≡ engine.Rows cursor.headings (next_rows cursor count)) × (new ≡ record old { cursors = set_value (bytes_eq name) old.cursors (advanced cursor count) })

-- the same in the session of a number, if it is open
abbrev pub FetchesIn : State → State → ℕ → Name → ℕ → engine.Reply → Type 0
FetchesIn old new n name count given = (x : Session) → session_numbered n old ≡ Some x → (cursor : Cursor) → lookup (bytes_eq name) x.cursors ≡ Some cursor
    → (given ≡ engine.Rows cursor.headings (next_rows cursor count)) × (new ≡ with_session n (record x { cursors = set_value (bytes_eq name) x.cursors (advanced cursor count) }) old)

-- ok and the new database are stated, or the refusal, which changes nothing
abbrev pub ChangesTo : Database → Database → Result Database Reply → Reply → Type 0
ChangesTo old new (Ok database) given = (given ≡ reply.Done) × (new ≡ database)
ChangesTo old new (Err refusal) given = (given ≡ refusal) × (new ≡ old)

-- the same of a call; where memory runs out nothing changes
abbrev pub Changes : {A E : Type 0} → Database → Database → Result Database Reply → Result (declared.Reply A) E → Type 0
Changes old new stated (Ok given) = ChangesTo old new stated (reply_of given)
Changes old new stated (Err e) = new ≡ old

-- the text has a tree, or this is its error; where memory runs out nothing is said
abbrev pub IsParsed : {X : Type 0} → Result X ParseError → Result (Unit {0}) (Failure ParseError) → Type 0
IsParsed stated (Ok u) = IsOk stated
IsParsed stated (Err (failure.Error e)) = stated ≡ Err e
IsParsed stated (Err failure.OutOfMemory) = ⊤
