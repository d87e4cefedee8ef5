-- The line that is reported as unreadable.
use Rattle.std.specs.Prelude.{◌≡◌, ◌<◌, ◌≤◌, ℕ, suc, List, [], ◌++◌, length, take, Ok, Err}
use Rattle.plan_texts.specs.Lines.{lines_of}
use Rattle.plan_texts.specs.Plans.{Plan, PlanEntry}
use Rattle.plan_texts.specs.Reading.{Begun, plan_at, read_lines}

-- some plan has a text that begins with these lines
abbrev pub Begins : List PlanEntry → (lines : List (List ℕ)) → Type 0
Begins entries lines = (more : List (List ℕ)) × (p : Plan) × (read_lines entries 1 Begun (lines ++ more) [] ≡ Ok p)

-- so many lines of a text begin a plan's text, and with one more none begins, or there is none more
pub record IsFirstUnreadable (entries : List PlanEntry) (text : List ℕ) (before : ℕ) : Type 0 where
  pub there : before ≤ length (lines_of text).0
  pub begins : Begins entries (take before (lines_of text).0)
  pub ends : before < length (lines_of text).0 → Begins entries (take (suc before) (lines_of text).0) → ⊥

-- the line that is reported is the first with which no plan's text goes on
abbrev pub UnreadableIsFirst : Type 0
UnreadableIsFirst = (entries : List PlanEntry) (text : List ℕ) (line : ℕ) → plan_at entries text ≡ Err line → (before : ℕ) × (line ≡ suc before) × IsFirstUnreadable entries text before
