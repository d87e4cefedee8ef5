-- The lines of a plan's text: an LF between quotes ends no line.
use Rattle.std.specs.Prelude.{ℕ, Bool, false, not, ◌==◌, ◌&&◌, if◌then◌else◌, List, [], ◌∷◌}

-- the lines, each without the LF that ends it, and the bytes after the last LF
abbrev pub Lines : Type 0
Lines = List (List ℕ) × List ℕ

-- an LF, and then lines
abbrev pub ended : Lines → Lines
ended ls = ([] ∷ ls.0, ls.1)

-- one more byte before the first line
abbrev pub with_byte : ℕ → Lines → Lines
with_byte b ([], rest) = ([], b ∷ rest)
with_byte b (l ∷ ls, rest) = ((b ∷ l) ∷ ls, rest)

-- an LF ends a line where no quotes are open
abbrev pub ends : ℕ → Bool → Bool
ends b quoted = (b == 10) && not quoted

-- a quote opens or closes quotes, and a doubled one does both
abbrev pub quotes : ℕ → Bool → Bool
quotes b quoted = if b == 39 then not quoted else quoted

-- the lines of a text that starts between quotes or not
abbrev pub lines_from : Bool → List ℕ → Lines
lines_from quoted [] = ([], [])
lines_from quoted (b ∷ bs) =
    if ends b quoted then ended (lines_from false bs) else with_byte b (lines_from (quotes b quoted) bs)

-- the lines of a text
abbrev pub lines_of : List ℕ → Lines
lines_of text = lines_from false text
