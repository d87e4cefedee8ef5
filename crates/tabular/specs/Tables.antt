-- The text of a table in aligned columns, as psql prints it.
use Rattle.std.specs.Prelude.{ℕ, ◌+◌, ◌-◌, ◌/◌, ◌==◌, max, Bool, true, false, if◌then◌else◌, List, [], ◌∷◌, ◌++◌, codes, map, flat_map, length, drop, replicate, get_or}
use Rattle.std.specs.Fmt.{decimal}
use Rattle.tabular.specs.Cells.{Cell, cell_width}
use Rattle.tabular.specs.declared.widths.Column.{Column}

-- ---- columns

-- the cell of a line in a column; of a line that is too short an empty one
abbrev pub cell_at : ℕ → List Cell → Cell
cell_at j line = get_or line j []

abbrev pub greatest : List ℕ → ℕ
greatest [] = 0
greatest (n ∷ ns) = max n (greatest ns)

-- of a column the greatest width of its cells
abbrev pub column_width : ℕ → List (List Cell) → ℕ
column_width j rows = greatest (map (λ row. cell_width (cell_at j row)) rows)

-- the columns from an index on: as wide as the heading or the widest cell
abbrev pub columns_from : ℕ → List Cell → List Bool → List (List Cell) → List Column
columns_from j [] to_right rows = []
columns_from j (heading ∷ more) to_right rows =
    record { width = max (cell_width heading) (column_width j rows); to_right = get_or to_right j false }
    ∷ columns_from (j + 1) more to_right rows

abbrev pub columns : List Cell → List Bool → List (List Cell) → List Column
columns headings to_right rows = columns_from 0 headings to_right rows

-- ---- cells in their columns

abbrev pub spaces : ℕ → List ℕ
spaces n = replicate n 32

-- the columns of the terminal that the cell leaves free
abbrev pub room : Column → Cell → ℕ
room column cell = column.width - cell_width cell

-- in the middle, or half a column to the left of it
abbrev pub centred : Column → Cell → List ℕ
centred column cell = spaces (room column cell / 2) ++ cell ++ spaces (room column cell - room column cell / 2)

-- at its side; after the last cell of a line that stands on the left nothing is filled up
abbrev pub placed : Column → Bool → Cell → List ℕ
placed column is_last cell =
    if column.to_right then spaces (room column cell) ++ cell
    else if is_last then cell
    else cell ++ spaces (room column cell)

-- ---- lines

-- no column is left
abbrev pub is_none_left : List Column → Bool
is_none_left [] = true
is_none_left (column ∷ more) = false

-- a mark between columns, or nothing after the last one
abbrev pub mark : List ℕ → List Column → List ℕ
mark bytes more = if is_none_left more then [] else bytes

-- the headings, in the middle of their columns
abbrev pub header_line : List Column → List Cell → List ℕ
header_line [] cells = codes "\n"
header_line (column ∷ more) cells = codes " " ++ centred column (cell_at 0 cells) ++ codes " " ++ mark (codes "|") more ++ header_line more (drop 1 cells)

-- the line under the headings
abbrev pub rule_line : List Column → List ℕ
rule_line [] = codes "\n"
rule_line (column ∷ more) = codes "-" ++ replicate column.width 45 ++ codes "-" ++ mark (codes "+") more ++ rule_line more

-- the cells of a row, each at its side of its column
abbrev pub row_line : List Column → List Cell → List ℕ
row_line [] cells = codes "\n"
row_line (column ∷ more) cells = codes " " ++ placed column (is_none_left more) (cell_at 0 cells) ++ mark (codes " |") more ++ row_line more (drop 1 cells)

abbrev pub count_line : ℕ → List ℕ
count_line n = if n == 1 then codes "(1 row)\n" else codes "(" ++ decimal n ++ codes " rows)\n"

-- ---- the table

abbrev pub lines : List Column → List Cell → List (List Cell) → List ℕ
lines columns headings rows = header_line columns headings ++ rule_line columns ++ flat_map (row_line columns) rows ++ count_line (length rows) ++ codes "\n"

-- the headings, a line, the rows, their number and an empty line; the cells of some columns stand on the right
abbrev pub table_text : List Cell → List Bool → List (List Cell) → List ℕ
table_text headings to_right rows = lines (columns headings to_right rows) headings rows
