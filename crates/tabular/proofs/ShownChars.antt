-- A text without control characters, character by character.
use Rattle.std.proofs.Common.{◌≡◌, ℕ, List, [], ◌++◌, length, encode_utf8, encode_utf8_all, IsUtf8}
use Rattle.std.proofs.lemmas.Str.{chars_past_char, encodes-append}
use Rattle.std.proofs.StrCases.{chars_of_empty}
use Rattle.tabular.specs.Cells.{shown, shown_char}

pub shown_empty : (text : List ℕ) → length text ≡ 0 → shown text ≡ []
unfolding shown
shown_empty text none = rw (chars_of_empty text none)

pub shown_step : (text rest : List ℕ) (c : ℕ) → IsUtf8 text → text ≡ encode_utf8 c ++ rest → shown text ≡ encode_utf8_all (shown_char c) ++ shown rest
unfolding shown
shown_step text rest c utf8 parts = rw (chars_past_char text rest c utf8 parts, encodes-append)
