-- The statistics of rows: how many there are, and of each column how many distinct values, and their bounds.
use Rattle.std.specs.Prelude.{ℕ, ℤ, Bool, true, false, List, length, map, filter, Option, Some, None, slice_index_or}
use Rattle.std.specs.List.{filter_map, range_with_len}
use Rattle.std.specs.declared.cmp.Ordering.{Ordering}
use Rattle.std.specs.Ordering.{int_cmp}
use Rattle.bags.specs.Least.{least}
use Rattle.value.specs.Datum.{Datum, null, int, text, bool, Row, cell}
use Rattle.value.specs.Orders.{datum_cmp}
use Rattle.value.specs.Restricted.{restricted}
use Rattle.stats.specs.declared.statistics.Bounds.{Bounds}
use Rattle.stats.specs.declared.statistics.ColumnStats.{ColumnStats}
use Rattle.stats.specs.Repeats.{without_repeats}

-- the number of rows and the statistics of each column, or unknown
pub data Stats : Type 0 where
  Unknown : Stats
  Known : (rows : ℕ) → (columns : List ColumnStats) → Stats

-- ---- of rows

abbrev pub is_value : Datum → Bool
is_value null = false
is_value (int n) = true
is_value (text t) = true
is_value (bool b) = true

-- the values of a column, apart from null
abbrev pub values_in : List Row → (column : ℕ) → List Datum
values_in rows column = filter is_value (map (λ row. cell row column) rows)

abbrev pub number_of : Datum → Option ℤ
number_of (int n) = Some n
number_of null = None
number_of (text t) = None
number_of (bool b) = None

-- the whole numbers among values
abbrev pub numbers : List Datum → List ℤ
numbers values = filter_map number_of values

-- the greatest element, if there is one
abbrev pub greatest : {X : Type 0} → (X → X → Ordering) → List X → Option X
greatest cmp xs = least (λ x y. cmp y x) xs

abbrev pub between : Option ℤ → Option ℤ → Option Bounds
between (Some low) (Some high) = Some record { least = low; greatest = high }
between _ _ = None

-- the least and the greatest number, if there is one
abbrev pub bounds_of : List ℤ → Option Bounds
bounds_of ns = between (least int_cmp ns) (greatest int_cmp ns)

-- how many values are distinct, and the bounds of the whole numbers among them
abbrev pub stats_of_values : List Datum → ColumnStats
stats_of_values values = record { distinct = length (without_repeats datum_cmp values); bounds = bounds_of (numbers values) }

-- of rows with so many columns: how many rows, and of each column its values
abbrev pub rows_stats : (count : ℕ) → List Row → Stats
rows_stats count rows = Known (length rows) (map (λ column. stats_of_values (values_in rows column)) (range_with_len 0 count))

-- of the rows that are seen, restricted to some columns: the others have no values
abbrev pub seen_stats : (columns : List ℕ) → (count : ℕ) → (seen : List Row) → Stats
seen_stats columns count seen = rows_stats count (map (restricted columns) seen)

-- ---- as they are read

-- unknown statistics count as 1,000 rows
abbrev pub row_count : Stats → ℕ
row_count Unknown = 1000
row_count (Known rows columns) = rows

-- those of a column that is not there
abbrev pub no_values : ColumnStats
no_values = record { distinct = 0; bounds = None }

-- unknown statistics count as ten distinct values in each column, with no bounds
abbrev pub column_stats : Stats → (column : ℕ) → ColumnStats
column_stats Unknown column = record { distinct = 10; bounds = None }
column_stats (Known rows columns) column = slice_index_or columns column no_values
