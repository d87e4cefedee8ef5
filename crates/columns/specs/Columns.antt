-- The values of columns, as a list of numbers, truth values or texts and a list that is true where a value is null.
use Rattle.std.specs.Prelude.{ℕ, ℤ, Bool, if◌then◌else◌, List, [], ◌∷◌, slice_range}
use Rattle.std.specs.Simd.Lanes.{zip2}
use Rattle.value.specs.Datum.{Datum, null, int, text, bool}

-- a number, or null
abbrev pub int_unless : ℤ → Bool → Datum
int_unless n is_null = if is_null then null else int n

-- the values of a bigint column
abbrev pub ints_of : List ℤ → List Bool → List Datum
ints_of = zip2 int_unless

-- a truth value, or null
abbrev pub bool_unless : Bool → Bool → Datum
bool_unless b is_null = if is_null then null else bool b

-- the values of a boolean column
abbrev pub bools_of : List Bool → List Bool → List Datum
bools_of = zip2 bool_unless

-- a text, or null
abbrev pub text_unless : List ℕ → Bool → Datum
text_unless t is_null = if is_null then null else text t

-- the texts that lie one after the other in bytes, from an offset up to the first end, and each from the end before it to its own
unfoldable pub texts_from : List ℕ → ℕ → List ℕ → List (List ℕ)
texts_from bytes start [] = []
texts_from bytes start (end ∷ ends) = slice_range bytes start end ∷ texts_from bytes end ends

-- the values of a text column
abbrev pub texts_of : List ℕ → List ℕ → List Bool → List Datum
texts_of bytes ends nulls = zip2 text_unless (texts_from bytes 0 ends) nulls
