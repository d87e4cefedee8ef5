-- Events.
use Rattle.std.specs.Prelude.{ℕ, List}
use Rattle.value.specs.Names.{Name}

-- a session is its number; roles, tables and names are taken byte by byte
pub data Event : Type 0 where
  Login : (role : Name) → Event
  Logout : (session : ℕ) → Event
  SetRole : (session : ℕ) → (role : Name) → Event
  ResetRole : (session : ℕ) → Event
  Ask : (session : ℕ) → (text : List ℕ) → Event
  Describe : (session : ℕ) → (text : List ℕ) → Event
  Prepare : (session : ℕ) → (name : Name) → (text : List ℕ) → Event
  Execute : (session : ℕ) → (name : Name) → Event
  Declare : (session : ℕ) → (name : Name) → (text : List ℕ) → Event
  Fetch : (session : ℕ) → (name : Name) → (count : ℕ) → Event
  Close : (session : ℕ) → (name : Name) → Event
  Change : (session : ℕ) → (text : List ℕ) → Event
  Load : (table : Name) → (bytes : List ℕ) → Event
