-- The rows of columns.
use Rattle.std.specs.Prelude.{ℕ, zero, suc, ◌+◌, List, [], ◌∷◌, map, get_or}
use Rattle.value.specs.Datum.{Datum, null, Row}
use Rattle.value.specs.Columns.{Column}
use Rattle.value.specs.declared.types.ColType.{ColType}

abbrev pub types_of : List Column → List ColType
types_of columns = map (λ c. c.data_type) columns

-- the types of columns, their rows, and the first values of a row that is not finished
pub record TypedRows : Type 0 where
  pub types : List ColType
  pub rows : List Row
  pub unfinished : Row

-- the value of each column at an index
abbrev pub row_across : List (List Datum) → ℕ → Row
row_across columns i = map (λ cells. get_or cells i null) columns

-- the next n rows of columns from index i on
unfoldable pub rows_from : List (List Datum) → ℕ → ℕ → List Row
rows_from columns i zero = []
rows_from columns i (suc n) = row_across columns i ∷ rows_from columns (i + 1) n
