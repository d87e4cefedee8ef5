-- Sessions over a database, and how many there may be.
use Rattle.std.specs.Prelude.{ℕ, Bool, ◌&&◌, ◌+◌, nat_eq, nat_le, nat_lt, List, [], length, min, take, drop, Option, None}
use Rattle.std.specs.Option.{unwrap_or}
use Rattle.std.specs.Map.{lookup, set_value}
use Rattle.value.specs.Datum.{Row}
use Rattle.value.specs.Names.{Name}
use Rattle.store.specs.Database.{Database}

-- a cursor: an answer as it was when the cursor was declared, and how many of its rows were fetched
pub record Cursor : Type 0 where
  pub headings : List Name
  pub rows : List Row
  pub fetched : ℕ

-- a session: the role that logged in, the role that was set, if one was, and by name its prepared texts and its cursors
pub record Session : Type 0 where
  pub login_role : Name
  pub set_role : Option Name
  pub prepared : List (Name × List ℕ)
  pub cursors : List (Name × Cursor)

-- the database, the open sessions by number in order of login, the number of the next one, and how many loads were accepted
pub record State : Type 0 where
  pub database : Database
  pub sessions : List (ℕ × Session)
  pub next_session : ℕ
  pub loads : ℕ

-- at first no session is open
abbrev pub at_start : Database → State
at_start database = record { database = database; sessions = []; next_session = 0; loads = 0 }

-- ---- limits

abbrev pub most_sessions : ℕ
most_sessions = 256

abbrev pub most_prepared : ℕ
most_prepared = 64

abbrev pub most_cursors : ℕ
most_cursors = 16

-- how many numbers sessions have, and how many loads are accepted: 2 ^ 64 - 1
abbrev pub most_counted : ℕ
most_counted = 18446744073709551615

-- the list has as many members as it may have
abbrev pub is_full : {X : Type 0} → ℕ → List X → Bool
is_full most xs = nat_le most (length xs)

-- one more session may be opened
abbrev pub has_login_room : State → Bool
has_login_room s = nat_lt (length s.sessions) most_sessions && nat_lt s.next_session most_counted

-- ---- sessions

abbrev pub new_session : Name → Session
new_session role = record { login_role = role; set_role = None; prepared = []; cursors = [] }

-- the role that was set, or else the one that logged in
abbrev pub current_role : Session → Name
current_role session = unwrap_or session.set_role session.login_role

abbrev pub session_numbered : ℕ → State → Option Session
session_numbered n s = lookup (nat_eq n) s.sessions

-- the session of that number replaced
abbrev pub with_session : ℕ → Session → State → State
with_session n session s = record s { sessions = set_value (nat_eq n) s.sessions session }

-- ---- cursors

abbrev pub new_cursor : List Name → List Row → Cursor
new_cursor headings rows = record { headings = headings; rows = rows; fetched = 0 }

-- the next rows of a cursor, at most so many
abbrev pub next_rows : Cursor → ℕ → List Row
next_rows cursor count = take count (drop cursor.fetched cursor.rows)

-- the cursor after they were fetched
abbrev pub advanced : Cursor → ℕ → Cursor
advanced cursor count = record cursor { fetched = min (cursor.fetched + count) (length cursor.rows) }
