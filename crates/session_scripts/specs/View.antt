-- The views of Rust types as spec data.
use Rattle.std.specs.Prelude.{ℕ, List}
use denote.Ref.{Bor}
use Rattle.session.specs.View.{event_of}
use Rattle.session_scripts.specs.declared.line.ScriptLine as declared
use Rattle.session_scripts.specs.declared.line.ScriptLine.TheVariants as line
use Rattle.plan_texts.specs.View.{pair_of}
use Rattle.session_scripts.specs.Lines.{ScriptLine, Event, Load}

abbrev pub line_of : {A : Type 0} → declared.ScriptLine A → ScriptLine
line_of (line.Event event) = Event (event_of event)
line_of (line.Load table path) = Load table path

-- ---- parts of a line

-- the bytes of a text
abbrev pub bytes_of : Bor (List ℕ) → List ℕ
bytes_of text = text.now

-- a number, and the bytes of a text
abbrev pub numbered_of : ℕ × Bor (List ℕ) → ℕ × List ℕ
numbered_of p = (p.0, p.1.now)

-- a number, and the bytes of two texts
abbrev pub numbered_pair_of : ℕ × (Bor (List ℕ) × Bor (List ℕ)) → ℕ × (List ℕ × List ℕ)
numbered_pair_of p = (p.0, pair_of p.1)
