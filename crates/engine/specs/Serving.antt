-- The bytes and the status of a reply that is written.
use Rattle.std.specs.Prelude.{◌≡◌, ◌⊎◌, ℕ, List, Option, Result}
use Rattle.std.specs.Io.KnownBytes.{Appends}
use Rattle.replies.specs.Reply.{Reply, no_memory, reply_status}
use Rattle.replies.specs.ReplyText.{reply_text}
use Rattle.engine.specs.Explained.{explained_status, explained_text}

-- this is the reply that is due, or memory ran out
abbrev pub IsReply : Reply → Reply → Type 0
IsReply given due = (given ≡ due) ⊎ (given ≡ no_memory)

-- the text of the reply went out whole, and the status is its
abbrev pub IsWhole : Option (List ℕ) → Option (List ℕ) → ℕ → Reply → Type 0
IsWhole before after status due = (status ≡ reply_status due) × Appends before after (reply_text due)

-- the same of what explains a text
abbrev pub IsExplained : Option (List ℕ) → Option (List ℕ) → ℕ → Result (List ℕ) Reply → Type 0
IsExplained before after status due = (status ≡ explained_status due) × Appends before after (explained_text due)
