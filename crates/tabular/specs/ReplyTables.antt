-- The text of a reply whose rows are a table.
use Rattle.std.specs.Prelude.{ℕ, ◌+◌, Bool, true, false, List, [], ◌∷◌, map, codes}
use Rattle.std.specs.List.{list_any}
use Rattle.std.specs.Fmt.{signed_decimal}
use Rattle.value.specs.Datum.{Datum, null, int, text, bool, Row, cell}
use Rattle.value.specs.Texts.{null_mark}
use Rattle.replies.specs.Reply.{Reply, Refused, Denied, Faulted, Rows}
use Rattle.replies.specs.ReplyText.{reply_text}
use Rattle.tabular.specs.Cells.{Cell, shown}
use Rattle.tabular.specs.Tables.{table_text}

-- null is \N, a truth value t or f
abbrev pub cell_of : Datum → Cell
cell_of null = null_mark
cell_of (int n) = signed_decimal n
cell_of (text bytes) = shown bytes
cell_of (bool true) = codes "t"
cell_of (bool false) = codes "f"

abbrev pub cells_of : Row → List Cell
cells_of row = map cell_of row

abbrev pub is_number : Datum → Bool
is_number (int n) = true
is_number _ = false

-- a number is in the column
abbrev pub has_number : ℕ → List Row → Bool
has_number j rows = list_any (λ row. is_number (cell row j)) rows

-- of each column from an index on if it goes to the right: one with a number does
abbrev pub sides_from : ℕ → List (List ℕ) → List Row → List Bool
sides_from j [] rows = []
sides_from j (heading ∷ more) rows = has_number j rows ∷ sides_from (j + 1) more rows

-- rows are a table; any other reply has its own text
abbrev pub reply_table : Reply → List ℕ
reply_table (Rows headings rows) = table_text (map shown headings) (sides_from 0 headings rows) (map cells_of rows)
reply_table (Refused code offset) = reply_text (Refused code offset)
reply_table (Denied column table) = reply_text (Denied column table)
reply_table (Faulted fault) = reply_text (Faulted fault)
