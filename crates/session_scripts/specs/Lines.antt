-- The lines of session scripts.
use Rattle.std.specs.Prelude.{ℕ, if◌then◌else◌, List, [], ◌∷◌, Option, Some, None, option_and_then, option_map, is_some, codes}
use Rattle.value.specs.Names.{Name}
use Rattle.value.specs.Numbers.{number_at}
use Rattle.session.specs.Event as session
use Rattle.plan_texts.specs.Reading.{cut, is_word}

-- an event other than a load, or a load of a file
pub data ScriptLine : Type 0 where
  Event : (event : session.Event) → ScriptLine
  Load : (table : Name) → (path : List ℕ) → ScriptLine

-- ---- words, numbers and texts

-- a word is not empty, and has no space
abbrev pub word_at : List ℕ → Option (List ℕ)
word_at [] = None
word_at (b ∷ bs) = if is_some (cut (b ∷ bs)) then None else Some (b ∷ bs)

-- WORD TEXT: a text is all the bytes after a space
abbrev pub word_text : List ℕ → Option (List ℕ × List ℕ)
word_text bs = option_and_then (λ p. option_map (λ w. (w, p.1)) (word_at p.0)) (cut bs)

-- S TEXT
abbrev pub session_text : List ℕ → Option (ℕ × List ℕ)
session_text bs = option_and_then (λ p. option_map (λ n. (n, p.1)) (number_at p.0)) (cut bs)

-- S WORD
abbrev pub session_word : List ℕ → Option (ℕ × List ℕ)
session_word bs = option_and_then (λ p. option_map (λ w. (p.0, w)) (word_at p.1)) (session_text bs)

-- S WORD TEXT
abbrev pub session_word_text : List ℕ → Option (ℕ × (List ℕ × List ℕ))
session_word_text bs = option_and_then (λ p. option_map (λ w. (p.0, w)) (word_text p.1)) (session_text bs)

-- ---- events, by the bytes after their words

-- login ROLE
abbrev pub login_at : List ℕ → Option session.Event
login_at bs = option_map session.Login (word_at bs)

-- logout S
abbrev pub logout_at : List ℕ → Option session.Event
logout_at bs = option_map session.Logout (number_at bs)

-- setrole S ROLE
abbrev pub set_role_at : List ℕ → Option session.Event
set_role_at bs = option_map (λ p. session.SetRole p.0 p.1) (session_word bs)

-- resetrole S
abbrev pub reset_role_at : List ℕ → Option session.Event
reset_role_at bs = option_map session.ResetRole (number_at bs)

-- ask S TEXT
abbrev pub ask_at : List ℕ → Option session.Event
ask_at bs = option_map (λ p. session.Ask p.0 p.1) (session_text bs)

-- describe S TEXT
abbrev pub describe_at : List ℕ → Option session.Event
describe_at bs = option_map (λ p. session.Describe p.0 p.1) (session_text bs)

-- prepare S NAME TEXT
abbrev pub prepare_at : List ℕ → Option session.Event
prepare_at bs = option_map (λ p. session.Prepare p.0 p.1.0 p.1.1) (session_word_text bs)

-- execute S NAME
abbrev pub execute_at : List ℕ → Option session.Event
execute_at bs = option_map (λ p. session.Execute p.0 p.1) (session_word bs)

-- declare S NAME TEXT
abbrev pub declare_at : List ℕ → Option session.Event
declare_at bs = option_map (λ p. session.Declare p.0 p.1.0 p.1.1) (session_word_text bs)

-- fetch S NAME N
abbrev pub fetch_at : List ℕ → Option session.Event
fetch_at bs = option_and_then (λ p. option_map (session.Fetch p.0 p.1.0) (number_at p.1.1)) (session_word_text bs)

-- close S NAME
abbrev pub close_at : List ℕ → Option session.Event
close_at bs = option_map (λ p. session.Close p.0 p.1) (session_word bs)

-- change S TEXT
abbrev pub change_at : List ℕ → Option session.Event
change_at bs = option_map (λ p. session.Change p.0 p.1) (session_text bs)

-- load TABLE PATH
abbrev pub load_at : List ℕ → Option ScriptLine
load_at bs = option_and_then (λ p. option_map (Load p.0) (word_at p.1)) (word_text bs)

-- ---- lines

-- an event other than a load, by its first word and the bytes after the space
abbrev pub event_at : List ℕ → List ℕ → Option session.Event
event_at word bs =
    if is_word (codes "login") word then login_at bs
    else if is_word (codes "logout") word then logout_at bs
    else if is_word (codes "setrole") word then set_role_at bs
    else if is_word (codes "resetrole") word then reset_role_at bs
    else if is_word (codes "ask") word then ask_at bs
    else if is_word (codes "describe") word then describe_at bs
    else if is_word (codes "prepare") word then prepare_at bs
    else if is_word (codes "execute") word then execute_at bs
    else if is_word (codes "declare") word then declare_at bs
    else if is_word (codes "fetch") word then fetch_at bs
    else if is_word (codes "close") word then close_at bs
    else if is_word (codes "change") word then change_at bs
    else None

-- a line, by its first word and the bytes after the space
abbrev pub by_word : List ℕ → List ℕ → Option ScriptLine
by_word word bs = if is_word (codes "load") word then load_at bs else option_map Event (event_at word bs)

-- the event of a line, which has no LF
abbrev pub line_at : List ℕ → Option ScriptLine
line_at line = option_and_then (λ p. by_word p.0 p.1) (cut line)
