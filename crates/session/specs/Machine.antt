-- The session machine: the reply to each event, and the state after it. It knows no plan. Beside it stand the keys of what was asked.
use Rattle.std.specs.Prelude.{◌≡◌, ◌≢◌, ◌⊎◌, ⊤, ℕ, Bool, true, List, [], ◌∷◌, is_ok, Option, Some, None, Result, Ok, Err, if◌then◌else◌}
use Rattle.std.specs.Result.{result_ok}
use Rattle.value.specs.Names.{Name}
use Rattle.replies.specs.Reply as engine
use Rattle.engine.specs.Analysis.{admitted}
use Rattle.engine.specs.Database.{Database, rows_of}
use Rattle.engine.specs.Answer.{reply_to}
use Rattle.descriptions.specs.Descriptions.{described}
use Rattle.shared_plans.specs.Recent.{Key, Recent, looked_up}
use Rattle.sessions.specs.AtOnce.{asked_at_once, change_at_once, fetch_at_once, load_at_once, login_at_once, prepare_at_once}
use Rattle.sessions.specs.State.{State, at_start}
use Rattle.sessions.specs.Reply.{Reply, Engine, no_memory}
use Rattle.sessions.specs.Events.{Step, settled, login, logout, set_role, reset_role, ask_text, prepare, execute_text, declare_text, keep, fetch, close, change, load}
use Rattle.sessions.specs.Taking.{IsTaken}
use Rattle.session.specs.Event.{Event, Login, Logout, SetRole, ResetRole, Ask, Describe, Prepare, Execute, Declare, Fetch, Close, Change, Load}

-- ---- asking

-- the reply to a role's text, in the present database
abbrev pub reply_in : State → Name × List ℕ → engine.Reply
reply_in s asked = reply_to s.database.catalog (rows_of s.database) asked.0 asked.1

abbrev pub answered : State → Result (Name × List ℕ) Reply → Result Step Reply
answered s (Err refusal) = Err refusal
answered s (Ok asked) = Ok (Engine (reply_in s asked), s)

-- a text, by the current role of a session
abbrev pub ask : State → ℕ → List ℕ → Result Step Reply
ask s n text = answered s (ask_text s n text)

abbrev pub described_in : State → Result (Name × List ℕ) Reply → Result Step Reply
described_in s (Err refusal) = Err refusal
described_in s (Ok asked) = Ok (Engine (described s.database.catalog asked.0 asked.1), s)

-- the name and the type of each column of a text's answer, by the current role of a session
abbrev pub describe : State → ℕ → List ℕ → Result Step Reply
describe s n text = described_in s (ask_text s n text)

-- a prepared text, by the current role
abbrev pub execute : State → ℕ → Name → Result Step Reply
execute s n name = answered s (execute_text s n name)

abbrev pub kept : State → ℕ → Name → Result (Name × List ℕ) Reply → Result Step Reply
kept s n name (Err refusal) = Err refusal
kept s n name (Ok asked) = keep s n name (reply_in s asked)

-- a text, by the current role; its rows are kept for a cursor as they are now
abbrev pub declare : State → ℕ → Name → List ℕ → Result Step Reply
declare s n name text = kept s n name (declare_text s n name text)

-- ---- events

abbrev pub outcome : State → Event → Result Step Reply
outcome s (Login role) = login s role
outcome s (Logout n) = logout s n
outcome s (SetRole n role) = set_role s n role
outcome s (ResetRole n) = reset_role s n
outcome s (Ask n text) = ask s n text
outcome s (Describe n text) = describe s n text
outcome s (Prepare n name text) = prepare s n name text
outcome s (Execute n name) = execute s n name
outcome s (Declare n name text) = declare s n name text
outcome s (Fetch n name count) = fetch s n name count
outcome s (Close n name) = close s n name
outcome s (Change n text) = change s n text
outcome s (Load table bytes) = load s table bytes

-- the reply to an event, and the state after it; a refusal changes nothing
abbrev pub session_step : State → Event → Step
session_step s event = settled s (outcome s event)

abbrev pub before : Reply → List Reply × State → List Reply × State
before reply rest = (reply ∷ rest.0, rest.1)

-- the replies to events, one after the other, and the state after them
abbrev pub session_run : State → List Event → List Reply × State
session_run s [] = ([], s)
session_run s (event ∷ events) = before (session_step s event).0 (session_run (session_step s event).1 events)

-- ---- the keys that are looked up

-- the role and the text that an event asks, if it comes so far
abbrev pub asked : State → Event → Option (Name × List ℕ)
asked s (Ask n text) = result_ok (ask_text s n text)
asked s (Execute n name) = result_ok (execute_text s n name)
asked s (Declare n name text) = result_ok (declare_text s n name text)
asked s (Login role) = None
asked s (Logout n) = None
asked s (SetRole n role) = None
asked s (ResetRole n) = None
asked s (Describe n text) = None
asked s (Prepare n name text) = None
asked s (Fetch n name count) = None
asked s (Close n name) = None
asked s (Change n text) = None
asked s (Load table bytes) = None

-- a role's text, and how many changes and loads were accepted so far
abbrev pub present_key : Database → ℕ → Name → List ℕ → Key
present_key database loads role text = record { text = text; role = role; changes = database.catalog.change_number; loads = loads }

-- the keys after a role asked a text: it is looked up where the text is admitted, so neither refused nor denied
abbrev pub recent_asked : Database → ℕ → Name → List ℕ → Recent → Recent
recent_asked database loads role text recent = if is_ok (admitted database.catalog role text) then looked_up (present_key database loads role text) recent else recent

abbrev pub recent_after_asked : State → Recent → Option (Name × List ℕ) → Recent
recent_after_asked s recent None = recent
recent_after_asked s recent (Some asked) = recent_asked s.database s.loads asked.0 asked.1 recent

-- the keys after an event
abbrev pub recent_after : State → Event → Recent → Recent
recent_after s event recent = recent_after_asked s recent (asked s event)

-- the keys after events, one after the other
abbrev pub recent_run : State → List Event → Recent → Recent
recent_run s [] recent = recent
recent_run s (event ∷ events) recent = recent_run (session_step s event).1 events (recent_after s event recent)

-- ---- what a step does

-- the machine's state, and the keys that were looked up with the number of hits
pub record Core : Type 0 where
  pub state : State
  pub recent : Recent

-- at first no session is open, and no key was looked up
abbrev pub first_core : Database → Core
first_core database = record { state = at_start database; recent = record { keys = []; hits = 0 } }

-- the reply and the new state are the machine's, and the key of what was asked was looked up
abbrev pub IsMachineStep : Core → Event → Reply → Core → Type 0
IsMachineStep old event reply new = IsTaken (outcome old.state event) old.state new.state reply × (new.recent ≡ recent_after old.state event old.recent)

-- the same; or memory ran out, which is the reply: the state is as it was, and the key may have been looked up or not
abbrev pub IsStep : Core → Event → Reply → Core → Type 0
IsStep old event reply new =
    IsMachineStep old event reply new
    ⊎ ((reply ≡ no_memory) × (new.state ≡ old.state) × ((new.recent ≡ old.recent) ⊎ (new.recent ≡ recent_after old.state event old.recent)))

-- these replies to these events, one step after the other
abbrev pub IsRun : Core → List Event → List Reply → Core → Type 0
IsRun old [] [] new = new ≡ old
IsRun old (event ∷ events) (reply ∷ replies) new = (mid : Core) × IsStep old event reply mid × IsRun mid events replies new
IsRun old [] (reply ∷ replies) new = ⊥
IsRun old (event ∷ events) [] new = ⊥

-- ---- memory

-- the event takes no memory, or is refused before memory is asked for
abbrev pub takes_no_memory : State → Event → Bool
takes_no_memory s (Login role) = login_at_once s role
takes_no_memory s (Logout n) = true
takes_no_memory s (SetRole n role) = true
takes_no_memory s (ResetRole n) = true
takes_no_memory s (Ask n text) = asked_at_once s (ask_text s n text)
takes_no_memory s (Describe n text) = asked_at_once s (ask_text s n text)
takes_no_memory s (Prepare n name text) = prepare_at_once s n name text
takes_no_memory s (Execute n name) = asked_at_once s (execute_text s n name)
takes_no_memory s (Declare n name text) = asked_at_once s (declare_text s n name text)
takes_no_memory s (Fetch n name count) = fetch_at_once s n name
takes_no_memory s (Close n name) = true
takes_no_memory s (Change n text) = change_at_once s n text
takes_no_memory s (Load table bytes) = load_at_once s table

-- ---- laws

-- memory did not run out
abbrev pub AreAnswered : List Reply → Type 0
AreAnswered [] = ⊤
AreAnswered (reply ∷ replies) = (reply ≢ no_memory) × AreAnswered replies

-- a run in which memory did not run out is the machine's, and the keys and hits are those of what was asked
abbrev pub RunsAreTheMachines : Type 0
RunsAreTheMachines = (old new : Core) (events : List Event) (replies : List Reply) → IsRun old events replies new → AreAnswered replies
    → (session_run old.state events ≡ (replies, new.state)) × (new.recent ≡ recent_run old.state events old.recent)
