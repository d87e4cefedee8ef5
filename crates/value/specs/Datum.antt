-- Values as spec data.
use Rattle.std.specs.Prelude.{ℕ, ℤ, Bool, List, [], map, slice_index_or, Option, None, Some, Result, Ok, Err}
use Rattle.std.specs.Cow.{cow_str_bytes}
use Rattle.value.specs.declared.types.Value.{Value}
use Rattle.value.specs.declared.types.Value.TheVariants as owned
use Rattle.value.specs.declared.types.Val.{Val}
use Rattle.value.specs.declared.types.Val.TheVariants as lent
use Rattle.value.specs.declared.types.Lent.{Lent}
use Rattle.value.specs.declared.types.Lent.TheVariants.{Int, Text, Bool as Truth}

-- null, a whole number, the bytes of a text, or a truth value
pub data Datum : Type 0 where
  null : Datum
  int : ℤ → Datum
  text : List ℕ → Datum
  bool : Bool → Datum

abbrev pub Row : Type 0
Row = List Datum

-- the row of a number, counted from 0, or an empty one; of a table it is asked only below the number of its rows
abbrev pub row_at : List Row → ℕ → Row
row_at rows number = slice_index_or rows number []

-- the value at an index, or null; a row of a table has a value for each column (catalog_laws::law_well_formed_database), so
-- that no null stands for one that is missing
abbrev pub cell : Row → ℕ → Datum
cell row index = slice_index_or row index null

-- the view of a Rust value as spec data
abbrev pub datum : {A : Type 0} → Value A → Datum
datum owned.Null = null
datum (owned.Int n) = int n
datum (owned.Text s) = text s
datum (owned.Bool b) = bool b

-- the view of a lent value
abbrev pub datum_of : {A : Type 0} → Val A → Datum
datum_of lent.Null = null
datum_of (lent.Int n) = int n
datum_of (lent.Text s) = text (cow_str_bytes s)
datum_of (lent.Bool b) = bool b

-- the view of a value that is lent and not null, and of one that is null where there is none
abbrev pub lent_datum : Lent → Datum
lent_datum (Int n) = int n
lent_datum (Text t) = text t.now
lent_datum (Truth b) = bool b

abbrev pub null_or : Option Lent → Datum
null_or None = null
null_or (Some v) = lent_datum v

-- the view of the result of reading a value
abbrev pub lents_of : {E : Type 0} → Result Lent E → Result Datum E
lents_of (Ok v) = Ok (lent_datum v)
lents_of (Err e) = Err e

abbrev pub row_of : {A : Type 0} → List (Value A) → Row
row_of values = map datum values

-- the view of the result of a function of values
abbrev pub datums_of : {A E : Type 0} → Result (Val A) E → Result Datum E
datums_of (Ok v) = Ok (datum_of v)
datums_of (Err e) = Err e
