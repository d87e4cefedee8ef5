-- The rows of an answer, and a row that is not finished.
use Rattle.std.specs.Prelude.{List, [], ◌∷◌, ◌++◌}
use Rattle.value.specs.Datum.{Datum, Row}

-- rows, and the first values of a row that is not finished
pub record Growing : Type 0 where
  pub rows : List Row
  pub unfinished : Row

-- rows, and no value of another one
abbrev pub only : List Row → Growing
only rows = record { rows = rows; unfinished = [] }

-- one more value of the row that is not finished
abbrev pub with_value : Growing → Datum → Growing
with_value g d = record { rows = g.rows; unfinished = g.unfinished ++ d ∷ [] }

-- that row is the last one
abbrev pub finished : Growing → Growing
finished g = only (g.rows ++ g.unfinished ∷ [])
