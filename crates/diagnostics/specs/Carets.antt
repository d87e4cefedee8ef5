-- The line of a text at an offset, and a caret below the offset.
use Rattle.std.specs.Prelude.{ℕ, ◌+◌, ◌==◌, nat_lt, ◌&&◌, Bool, List, [], ◌∷◌, ◌++◌, take, drop, filter, length, codes, Option, Some, None, if◌then◌else◌}
use Rattle.std.specs.List.{filter_map, list_any}
use Rattle.std.specs.Fmt.{decimal}

-- LF
abbrev pub is_end : ℕ → Bool
is_end b = b == 10

-- up to the first end of a line
abbrev pub first_line : List ℕ → List ℕ
first_line [] = []
first_line (b ∷ bs) = if is_end b then [] else b ∷ first_line bs

-- after the last end of a line
abbrev pub last_line : List ℕ → List ℕ
last_line [] = []
last_line (b ∷ bs) = if list_any is_end (b ∷ bs) then last_line bs else b ∷ bs

-- lines count from 1
abbrev pub line_number : List ℕ → ℕ
line_number before = length (filter is_end before) + 1

-- the white space below a byte: nothing below a later byte of a character in UTF-8, a tab below a tab, a space below
-- all else
abbrev pub below : ℕ → Option ℕ
below b = if nat_lt 127 b && nat_lt b 192 then None else Some (if b == 9 then 9 else 32)

-- the line up to an offset, after its number
abbrev pub up_to : List ℕ → List ℕ
up_to before = codes "LINE " ++ decimal (line_number before) ++ codes ": " ++ last_line before

-- the line at an offset, and a caret below the offset
abbrev pub caret_lines : List ℕ → ℕ → List ℕ
caret_lines text offset = up_to (take offset text) ++ first_line (drop offset text) ++ codes "\n" ++ filter_map below (up_to (take offset text)) ++ codes "^\n"
