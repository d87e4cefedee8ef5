-- The values that the fields of a column hold.
use Rattle.std.specs.Prelude.{◌≡◌, ◌≤◌, ℕ, Bool, List, [], ◌∷◌, length, All, IsUtf8}
use Rattle.value.specs.Datum.{Datum}
use Rattle.columns.specs.Columns.{bools_of, ints_of, texts_from, texts_of}
use Rattle.columns.specs.declared.bools.Bools.TheInside as bools
use Rattle.columns.specs.declared.ints.Ints.TheInside as ints
use Rattle.columns.specs.declared.texts.Texts.TheInside as texts

abbrev pub ints_in : {A : Type 0} → ints.Inside A → List Datum
ints_in column = ints_of column.values.items column.nulls

-- each number has its bit
abbrev pub AreInts : {A : Type 0} → ints.Inside A → Type 0
AreInts column = length column.nulls ≡ length column.values.items

abbrev pub bools_in : {A : Type 0} → bools.Inside A → List Datum
bools_in column = bools_of column.trues column.nulls

-- each truth value has its bit
abbrev pub AreBools : {A : Type 0} → bools.Inside A → Type 0
AreBools column = length column.nulls ≡ length column.trues

abbrev pub texts_in : {A : Type 0} → texts.Inside A → List Datum
texts_in column = texts_of column.bytes.items column.ends.items column.nulls

-- no end lies before the one that it follows, and the last is at the end of the bytes
unfoldable pub EndsAscend : ℕ → List ℕ → ℕ → Type 0
EndsAscend start [] last = start ≡ last
EndsAscend start (end ∷ ends) last = (start ≤ end) × EndsAscend end ends last

-- each text has its bit and is UTF-8, and the texts are all of the bytes
pub record TextsHold (bytes ends : List ℕ) (nulls : List Bool) : Type 0 where
  pub bits : length nulls ≡ length ends
  pub ascend : EndsAscend 0 ends (length bytes)
  pub utf8 : All IsUtf8 (texts_from bytes 0 ends)

abbrev pub AreTexts : {A : Type 0} → texts.Inside A → Type 0
AreTexts column = TextsHold column.bytes.items column.ends.items column.nulls
