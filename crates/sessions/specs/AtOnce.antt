-- Events that are refused before memory is asked for.
use Rattle.std.specs.Prelude.{ℕ, Bool, not, ◌||◌, nat_le, nat_lt, List, length, is_none, is_some, Option, Some, None, Result, Ok, Err, true}
use Rattle.std.specs.Str.{bytes_eq}
use Rattle.std.specs.List.{find}
use Rattle.std.specs.Map.{lookup}
use Rattle.value.specs.Names.{Name}
use Rattle.syntax.specs.Parsing.{query_bytes, statement_bytes}
use Rattle.catalog.specs.Catalog.{is_role}
use Rattle.analysis.specs.Analysis.{is_refused_at_once}
use Rattle.store.specs.Database.{is_named}
use Rattle.sessions.specs.Reply.{Reply}
use Rattle.sessions.specs.State.{Session, State, has_login_room, most_counted, session_numbered}

-- there is no such session, or one that passes the test
abbrev pub is_none_or : (Session → Bool) → Option Session → Bool
is_none_or test None = true
is_none_or test (Some session) = test session

-- there is no such role, or no room
abbrev pub login_at_once : State → Name → Bool
login_at_once s role = not (is_role s.database.catalog role) || not (has_login_room s)

-- there is no such session, or the name is in use, or the text is too long
abbrev pub prepare_at_once : State → ℕ → Name → List ℕ → Bool
prepare_at_once s n name text = is_none_or (λ session. is_some (lookup (bytes_eq name) session.prepared) || nat_lt query_bytes (length text)) (session_numbered n s)

-- there is no such session, or no such cursor
abbrev pub fetch_at_once : State → ℕ → Name → Bool
fetch_at_once s n name = is_none_or (λ session. is_none (lookup (bytes_eq name) session.cursors)) (session_numbered n s)

-- there is no such session, or the text is too long
abbrev pub change_at_once : State → ℕ → List ℕ → Bool
change_at_once s n text = is_none_or (λ session. nat_lt statement_bytes (length text)) (session_numbered n s)

-- numbers of loads run out, or there is no such table
abbrev pub load_at_once : State → Name → Bool
load_at_once s table = nat_le most_counted s.loads || is_none (find (is_named table) s.database.tables)

-- nothing is asked, or the role is unknown or the text too long
abbrev pub asked_at_once : State → Result (Name × List ℕ) Reply → Bool
asked_at_once s (Err refusal) = true
asked_at_once s (Ok asked) = is_refused_at_once s.database.catalog asked.0 asked.1
