-- The text of a reply.
use Rattle.std.specs.Prelude.{◌≡◌, ◌≢◌, ℕ, Bool, true, false, ◌==◌, ◌||◌, if◌then◌else◌, List, [], ◌∷◌, ◌++◌, map, flat_map, length, Option, Some, None, codes}
use Rattle.std.specs.List.{list_any}
use Rattle.std.specs.Fmt.{decimal, signed_decimal}
use Rattle.value.specs.Datum.{Datum, null, int, text, bool, Row}
use Rattle.value.specs.Codes.{code_of}
use Rattle.value.specs.Faults.{kind_code}
use Rattle.value.specs.Texts.{IsNoNullMark, is_of, null_mark}
use Rattle.value.specs.declared.types.ColType.{ColType}
use Rattle.replies.specs.Reply.{Reply, Refused, Denied, Faulted, Rows}

-- comma, quote, LF, CR
abbrev pub is_special : ℕ → Bool
is_special b = (b == 44) || (b == 34) || (b == 10) || (b == 13)

-- a field is quoted where it is empty or has something special
abbrev pub needs_quotes : List ℕ → Bool
needs_quotes bytes = (length bytes == 0) || list_any is_special bytes

-- a quote is written twice
abbrev pub doubled : ℕ → List ℕ
doubled b = if b == 34 then 34 ∷ 34 ∷ [] else b ∷ []

abbrev pub quoted_text : List ℕ → List ℕ
quoted_text bytes = if needs_quotes bytes then 34 ∷ flat_map doubled bytes ++ 34 ∷ [] else bytes

-- null is \N, a truth value t or f
abbrev pub field_text : Datum → List ℕ
field_text null = null_mark
field_text (int n) = signed_decimal n
field_text (text bytes) = quoted_text bytes
field_text (bool true) = codes "t"
field_text (bool false) = codes "f"

-- no value of a type has the field of null, but a text that is the null mark
abbrev pub NullFieldIsNull : Type 0
NullFieldIsNull = (kind : ColType) (d : Datum) → is_of kind d ≡ true → IsNoNullMark d → field_text d ≢ null_mark

-- fields with commas between them, and LF
abbrev pub line_text : Row → List ℕ
line_text [] = 10 ∷ []
line_text (d ∷ ds) = field_text d ++ flat_map (λ e. 44 ∷ field_text e) ds ++ 10 ∷ []

abbrev pub offset_text : Option ℕ → List ℕ
offset_text None = []
offset_text (Some offset) = codes " at " ++ decimal offset

abbrev pub column_text : Option (List ℕ) → List ℕ
column_text None = []
column_text (Some column) = codes "column " ++ column ++ codes " of "

-- the text of a reply
abbrev pub reply_text : Reply → List ℕ
reply_text (Refused code offset) = codes "refused " ++ code_of code ++ offset_text offset ++ 10 ∷ []
reply_text (Denied column table) = codes "denied 42501 " ++ column_text column ++ codes "table " ++ table ++ 10 ∷ []
reply_text (Faulted fault) = codes "fault " ++ kind_code fault.kind ++ codes " at " ++ decimal fault.offset ++ 10 ∷ []
reply_text (Rows headings rows) = line_text (map text headings) ++ flat_map line_text rows
