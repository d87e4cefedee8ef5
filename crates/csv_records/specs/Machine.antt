-- The states of a reader that reads byte by byte, as csv's machine has them.
use Rattle.std.specs.Prelude.{ℕ, ◌≡◌, true}
use Rattle.csv.specs.Machine.{is_end, step}
use Rattle.csv.specs.Reading.{default_config}
use Rattle.csv.specs.declared.parser.Action.{Action}
use Rattle.csv.specs.declared.parser.Action.TheVariants as csv
use Rattle.csv.specs.declared.parser.State.{State}
use Rattle.csv.specs.declared.parser.State.TheVariants as st
use Rattle.csv_records.specs.declared.machine.Act as declared
use Rattle.csv_records.specs.declared.machine.Act.TheVariants as act
use Rattle.csv_records.specs.declared.machine.Place as place
use Rattle.csv_records.specs.declared.machine.Place.TheVariants as at

-- after CR a record starts as after LF
abbrev pub settled : State → State
settled st.StartRecord = st.StartRecord
settled st.StartField = st.StartField
settled st.InField = st.InField
settled st.InQuoted = st.InQuoted
settled st.AfterQuote = st.AfterQuote
settled st.InEscape = st.InEscape
settled st.InComment = st.InComment
settled st.AfterCr = st.StartRecord

abbrev pub state_of : place.Place → State
state_of at.Record = st.StartRecord
state_of at.Field = st.StartField
state_of at.Plain = st.InField
state_of at.Quoted = st.InQuoted
state_of at.Closed = st.AfterQuote

abbrev pub action_of : declared.Act → Action
action_of act.Skip = csv.Skip
action_of act.Copy = csv.Copy
action_of act.EndField = csv.EndField
action_of act.EndRecord = csv.EndRecord

-- from a place a byte leads to another one, by an act, as in csv's machine; the end of a record leads to the next one
abbrev pub IsStep : place.Place → ℕ → place.Place → declared.Act → Type 0
IsStep from byte to how = (settled (step default_config (state_of from) byte).0 ≡ state_of to) × ((step default_config (state_of from) byte).1 ≡ action_of how) × (is_end (action_of how) ≡ true → state_of to ≡ st.StartRecord)
