-- Replies as spec data, and their exit statuses.
use Rattle.std.specs.Prelude.{ℕ, List, Option, Some, None}
use Rattle.value.specs.Datum.{Row}
use Rattle.value.specs.declared.faults.Fault.{Fault}
use Rattle.value.specs.declared.refusal.Refusal.{Refusal}
use Rattle.value.specs.declared.refusal.Refusal.TheVariants as r

-- a refusal, with its offset in the text if it has one; a denial of a column or of all of a table; the fault of an
-- evaluation; or headings and rows. A name is its bytes.
pub data Reply : Type 0 where
  Refused : (code : Refusal) → (offset : Option ℕ) → Reply
  Denied : (column : Option (List ℕ)) → (table : List ℕ) → Reply
  Faulted : (fault : Fault) → Reply
  Rows : (headings : List (List ℕ)) → (rows : List Row) → Reply

-- the reply where memory ran out
abbrev pub no_memory : Reply
no_memory = Refused r.OutOfMemory None

-- of a refusal without an offset: 3 a refused text, 6 an unknown role, 7 out of memory
abbrev pub refusal_status : Refusal → ℕ
refusal_status r.UndefinedObject = 6
refusal_status r.OutOfMemory = 7
refusal_status _ = 3

-- the exit status of a reply: 0 rows, 3 a text that is refused at an offset, 4 a denial, 5 a fault
abbrev pub reply_status : Reply → ℕ
reply_status (Refused code (Some offset)) = 3
reply_status (Refused code None) = refusal_status code
reply_status (Denied column table) = 4
reply_status (Faulted fault) = 5
reply_status (Rows headings rows) = 0
