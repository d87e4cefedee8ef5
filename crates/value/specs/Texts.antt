-- The texts of values.
use Rattle.std.specs.Fmt.{signed_decimal}
use Rattle.std.specs.Prelude.{◌≡◌, ◌≢◌, ℕ, ℤ, pos, neg_ℤ, Bool, true, false, not, ◌&&◌, ◌==◌, if◌then◌else◌, List, [], ◌∷◌, codes, Option, Some, None, Result, Ok, Err}
use Rattle.std.specs.List.{list_all}
use Rattle.std.specs.Str.{bytes_eq, is_utf8}
use Rattle.std.specs.Char.{is_ascii_digit}
use Rattle.std.specs.Str.Parse.{digits_value}
use Rattle.value.specs.declared.types.FaultKind.{FaultKind}
use Rattle.value.specs.declared.types.FaultKind.TheVariants.{BadText}
use Rattle.value.specs.Exact.{in_range, is_bigint, as_number}
use Rattle.value.specs.Datum.{Datum, null, int, text, bool}
use Rattle.value.specs.declared.types.ColType.{ColType}
use Rattle.value.specs.declared.types.ColType.TheVariants as types

-- digits that do not start with 0
abbrev pub is_positive : List ℕ → Bool
is_positive [] = false
is_positive (d ∷ ds) = not (d == 48) && list_all is_ascii_digit (d ∷ ds)

-- an optional minus, and digits that do not start with 0
abbrev pub is_spelled : List ℕ → Bool
is_spelled [] = false
is_spelled (c ∷ cs) = if c == 45 then is_positive cs else is_positive (c ∷ cs)

-- the number that they spell
abbrev pub spelled : List ℕ → ℤ
spelled [] = pos 0
spelled (c ∷ cs) = if c == 45 then neg_ℤ (pos (digits_value 10 cs)) else pos (digits_value 10 (c ∷ cs))

-- the bigint of a text
abbrev pub bigint_at : List ℕ → Result ℤ FaultKind
bigint_at t = if is_spelled t then in_range (spelled t) else (if bytes_eq t (48 ∷ []) then Ok (pos 0) else Err BadText)

-- a text that is read as a bigint is its own text
abbrev pub OneSpelling : Type 0
OneSpelling = (t : List ℕ) (z : ℤ) → bigint_at t ≡ Ok z → t ≡ signed_decimal z

-- the text of a bigint is read as the bigint
abbrev pub ReadAgain : Type 0
ReadAgain = (z : ℤ) → is_bigint z ≡ true → bigint_at (signed_decimal z) ≡ Ok z

-- t or f
abbrev pub boolean_at : List ℕ → Result Datum FaultKind
boolean_at t = if bytes_eq t (codes "t") then Ok (bool true) else if bytes_eq t (codes "f") then Ok (bool false) else Err BadText

-- the value of a type that a text spells
abbrev pub value_at : ColType → List ℕ → Result Datum FaultKind
value_at types.Bigint t = as_number (bigint_at t)
value_at types.Text t = Ok (text t)
value_at types.Boolean t = boolean_at t

-- the value of a type that bytes spell; bytes that are no UTF-8 spell none
abbrev pub value_in : ColType → List ℕ → Result Datum FaultKind
value_in kind t = if is_utf8 t then value_at kind t else Err BadText

-- the field that means null: a backslash and N
abbrev pub null_mark : List ℕ
null_mark = 92 ∷ 78 ∷ []

-- a value whose text is not the null mark
abbrev pub IsNoNullMark : Datum → Type 0
IsNoNullMark null = Unit {0}
IsNoNullMark (int n) = Unit {0}
IsNoNullMark (text t) = t ≢ null_mark
IsNoNullMark (bool b) = Unit {0}

-- ---- writing

-- the text of a value: a number in decimal, t or f, or the text itself; null has none
abbrev pub text_at : Datum → Option (List ℕ)
text_at null = None
text_at (int n) = Some (signed_decimal n)
text_at (text t) = Some t
text_at (bool true) = Some (codes "t")
text_at (bool false) = Some (codes "f")

-- the value is of the type
abbrev pub is_of : ColType → Datum → Bool
is_of types.Bigint (int n) = is_bigint n
is_of types.Text (text t) = true
is_of types.Boolean (bool b) = true
is_of kind d = false

-- the text of a value of a type reads as the value
abbrev pub WrittenReadsBack : Type 0
WrittenReadsBack = (kind : ColType) (d : Datum) (t : List ℕ) → is_of kind d ≡ true → text_at d ≡ Some t → value_at kind t ≡ Ok d

-- a text that reads as a value of a type is the text of the value
abbrev pub ReadIsWritten : Type 0
ReadIsWritten = (kind : ColType) (d : Datum) (t : List ℕ) → value_at kind t ≡ Ok d → text_at d ≡ Some t
