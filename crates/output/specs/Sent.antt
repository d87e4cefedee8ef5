-- A text that is sent with its status.
use Rattle.std.specs.Prelude.{ℕ, ◌≡◌, ◌≢◌, ◌⊎◌, List, Option}
use Rattle.std.specs.Io.KnownBytes.{Appends}
use Rattle.output.specs.Taken.{Begins, one_more}

-- a call that sends a text returns its status; 7 where memory ran out, and it sent a line in place of the text; 8 where the writer
-- failed
pub record IsSent (old new : Option (List ℕ)) (failures after : ℕ) (status due_status : ℕ) (due memory_line : List ℕ) : Type 0 where
  -- the whole text, and its status
  pub answered : status ≢ 7 → status ≢ 8 → (status ≡ due_status) × Appends old new due
  -- memory ran out: the line, and nothing of the text
  pub memory : status ≡ 7 → Appends old new memory_line
  -- the writer failed in this call, and a beginning of either went out
  pub failed : status ≡ 8 → after ≡ one_more failures
  pub fine : status ≢ 8 → after ≡ failures
  pub beginning : status ≡ 8 → Begins old new due ⊎ Begins old new memory_line
