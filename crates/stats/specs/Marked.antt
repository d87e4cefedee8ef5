-- The rows of a table that are marked, and the columns that are counted.
use Rattle.std.specs.Prelude.{◌≡◌, ℕ, ◌+◌, All, Bool, false, if◌then◌else◌, List, [], ◌∷◌, filter, length, get_or}
use Rattle.value.specs.Datum.{Row}
use Rattle.stats.specs.declared.statistics.ColumnStats.{ColumnStats}
use Rattle.stats.specs.Statistics.{stats_of_values, values_in}

-- the row of the number is marked
abbrev pub is_marked : List Bool → ℕ → Bool
is_marked marks number = get_or marks number false

-- those of the rows that are marked; the first row has the number
abbrev pub marked_from : List Bool → ℕ → List Row → List Row
marked_from marks number [] = []
marked_from marks number (row ∷ rows) = if is_marked marks number then row ∷ marked_from marks (number + 1) rows else marked_from marks (number + 1) rows

abbrev pub marked : List Bool → List Row → List Row
marked marks rows = marked_from marks 0 rows

-- how many marks there are
abbrev pub count_marks : List Bool → ℕ
count_marks marks = length (filter (λ m. m) marks)

-- ---- what is counted so far

-- the marks of rows, the number of those that are marked, and statistics of columns
pub record MarkedStats : Type 0 where
  pub marks : List Bool
  pub rows : ℕ
  pub columns : List (ℕ × ColumnStats)

-- they are those of the marked rows
pub record AreStatsOf (rows : List Row) (s : MarkedStats) : Type 0 where
  pub long : length s.marks ≡ length rows
  pub count : s.rows ≡ length (marked s.marks rows)
  pub right : All (λ c. c.1 ≡ stats_of_values (values_in (marked s.marks rows) c.0)) s.columns
