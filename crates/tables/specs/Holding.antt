-- What a table's fields hold.
use Rattle.std.specs.Prelude.{◌≡◌, ◌≤◌, [], length, map, All}
use Rattle.value.specs.Columns.{column_of}
use Rattle.columns.specs.Rows.{types_of}
use Rattle.tables.specs.declared.TheConstants.{MAX_ROWS}
use Rattle.tables.specs.declared.table.Table.TheInside.{Inside}
use Rattle.tables.specs.Loading.{TableRows}

abbrev pub contents_of : {A : Type 0} → Inside A → TableRows
contents_of a = record { columns = map column_of a.columns; rows = a.rows.rows }

-- the values have the types of the columns, no row is unfinished, each has a value for each column, and there are not too many
pub record Holds {A : Type 0} (a : Inside A) : Type 0 where
  pub types : a.rows.types ≡ types_of (map column_of a.columns)
  pub finished : a.rows.unfinished ≡ []
  pub wide : All (λ r. length r ≡ length a.columns) a.rows.rows
  pub few : length a.rows.rows ≤ MAX_ROWS

abbrev pub IsHeld : {A : Type 0} → Inside A → Type 0
IsHeld a = Holds a
