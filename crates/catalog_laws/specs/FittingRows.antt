-- Rows that fit the columns of their table.
use Rattle.std.specs.Prelude.{◌≡◌, ◌≢◌, ◌≤◌, false, List, length, All, IsTrue}
use Rattle.std.specs.List.{AllZip}
use Rattle.std.specs.Str.{is_utf8}
use Rattle.value.specs.Columns.{Column}
use Rattle.value.specs.Datum.{Datum, null, int, text, bool, Row}
use Rattle.value.specs.Exact.{is_bigint}
use Rattle.value.specs.Texts.{null_mark}
use Rattle.value.specs.declared.types.ColType.TheVariants as types
use Rattle.tables.specs.declared.TheConstants.{MAX_ROWS}
use Rattle.tables.specs.Loading.{TableRows}

-- null where the column may be null; else a value of its type: a number of 64 bits, a text in UTF-8 that does not read as
-- null, or a truth value
abbrev pub FitsColumn : Column → Datum → Type 0
FitsColumn c null = c.not_null ≡ false
FitsColumn c (int n) = (c.data_type ≡ types.Bigint) × IsTrue (is_bigint n)
FitsColumn c (text t) = (c.data_type ≡ types.Text) × IsTrue (is_utf8 t) × (t ≢ null_mark)
FitsColumn c (bool b) = c.data_type ≡ types.Boolean

-- a row with a value for each column
abbrev pub FitsColumns : List Column → Row → Type 0
FitsColumns columns row = AllZip FitsColumn columns row

-- each row fits the columns, and there are not too many
pub record IsWellFormedContents (contents : TableRows) : Type 0 where
  pub rows : All (FitsColumns contents.columns) contents.rows
  pub row_count : length contents.rows ≤ MAX_ROWS
