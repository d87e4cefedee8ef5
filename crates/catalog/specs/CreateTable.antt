-- CREATE TABLE name (columns).
use Rattle.std.specs.Prelude.{ℕ, ◌||◌, nat_lt, List, [], ◌∷◌, ◌++◌, length}
use Rattle.value.specs.Columns.{Column}
use Rattle.value.specs.declared.refusal.Refusal.TheVariants as r
use Rattle.value.specs.Names.{Name}
use Rattle.row_objects.specs.ColumnNames.{has_name_twice}
use Rattle.row_objects.specs.TableDefs.{new_table}
use Rattle.catalog.specs.Catalog.{Catalog, is_index, is_table}
use Rattle.catalog.specs.Checks.{Check, is_full}

-- the most tables of a catalogue, and the most columns of a table
abbrev pub most_tables : ℕ
most_tables = 64

abbrev pub most_columns : ℕ
most_columns = 64

abbrev pub checks_create_table : Catalog → Name → List Column → List Check
checks_create_table cat name columns =
    (is_table cat name, r.DuplicateTable)
    ∷ (is_index cat name, r.DuplicateTable)
    ∷ (has_name_twice columns, r.DuplicateColumn)
    ∷ (is_full most_tables cat.tables || nat_lt most_columns (length columns), r.ProgramLimitExceeded) ∷ []

abbrev pub after_create_table : Catalog → Name → Name → List Column → Catalog
after_create_table cat actor name columns = record cat { tables = cat.tables ++ new_table actor name columns ∷ [] }
