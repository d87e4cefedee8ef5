-- The cells of a table that is shown in a terminal.
use Rattle.std.specs.Prelude.{ℕ, ◌+◌, ◌/◌, ◌%◌, ◌==◌, nat_lt, Bool, false, ◌||◌, ◌&&◌, if◌then◌else◌, List, [], ◌∷◌, ◌++◌, codes, chars, encode_utf8_all, flat_map}
use Rattle.unicode_width.specs.Width.{str_width}

-- the bytes of a text in UTF-8
abbrev pub Cell : Type 0
Cell = List ℕ

-- the columns of a terminal that it takes
abbrev pub cell_width : Cell → ℕ
cell_width cell = str_width false (chars cell)

-- U+0000 to U+001F, and U+007F to U+009F
abbrev pub is_control : ℕ → Bool
is_control c = nat_lt c 32 || (nat_lt 126 c && nat_lt c 160)

-- a hexadecimal digit, in upper case
abbrev pub hex_digit : ℕ → ℕ
hex_digit n = if nat_lt n 10 then 48 + n else 55 + n

abbrev pub hex_digits : ℕ → List ℕ
hex_digits c = hex_digit (c / 16) ∷ hex_digit (c % 16) ∷ []

-- a control character by its code: an ASCII one as \x1B, another as \u009B
abbrev pub code : ℕ → List ℕ
code c = if nat_lt c 128 then codes "\\x" ++ hex_digits c else codes "\\u00" ++ hex_digits c

-- LF, CR and tab by their letters
abbrev pub escape : ℕ → List ℕ
escape c =
    if c == 10 then codes "\\n"
    else if c == 13 then codes "\\r"
    else if c == 9 then codes "\\t"
    else code c

abbrev pub shown_char : ℕ → List ℕ
shown_char c = if is_control c then escape c else c ∷ []

-- a text in one line, without control characters
unfoldable pub shown : List ℕ → Cell
shown text = encode_utf8_all (flat_map shown_char (chars text))
