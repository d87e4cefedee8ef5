-- Replies to events.
use Rattle.std.specs.Prelude.{ℕ, Bool, true, false, None}
use Rattle.value.specs.Names.{Name}
use Rattle.value.specs.declared.refusal.Refusal.{Refusal}
use Rattle.tables.specs.declared.LoadError.{LoadError}
use Rattle.replies.specs.Reply as engine

-- a reply to a text, ok, the number of a new session, or the first error of rows with the names of their table and column
pub data Reply : Type 0 where
  Engine : (reply : engine.Reply) → Reply
  Done : Reply
  Session : (number : ℕ) → Reply
  Data : (table : Name) → (column : Name) → (error : LoadError) → Reply

-- a reply to a text has rows
abbrev pub has_rows : engine.Reply → Bool
has_rows (engine.Rows headings rows) = true
has_rows (engine.Refused code offset) = false
has_rows (engine.Denied column table) = false
has_rows (engine.Faulted fault) = false

-- a refusal by a code alone
abbrev pub refused_by : Refusal → Reply
refused_by code = Engine (engine.Refused code None)

-- the reply where memory ran out
abbrev pub no_memory : Reply
no_memory = Engine engine.no_memory
