-- Tokens without their offsets, for texts of which no offset is reported.
use Rattle.std.specs.Prelude.{ℕ, List, map}
use Rattle.row_tokens.specs.Tokens.{Token, words}

abbrev pub without_offset : Token → Token
without_offset w = record { kind = w.kind; bytes = w.bytes; number = w.number; at = 0 }

-- the tokens of a text, none with its offset
abbrev pub words_without_offsets : List ℕ → List Token
words_without_offsets text = map without_offset (words text)
