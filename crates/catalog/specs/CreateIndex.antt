-- CREATE INDEX name ON table (column).
use Rattle.std.specs.Prelude.{ℕ, true, not, List, [], ◌∷◌}
use Rattle.value.specs.declared.refusal.Refusal.TheVariants as r
use Rattle.value.specs.Names.{Name}
use Rattle.row_objects.specs.Objects.{Table}
use Rattle.row_objects.specs.Indexes.{is_indexed}
use Rattle.row_objects.specs.TableChanges.{with_index}
use Rattle.catalog.specs.Catalog.{Catalog, is_index, is_table, owns, column_index, table_named}
use Rattle.catalog.specs.Checks.{Check, if_found, with_table}

-- the name is new to tables and indexes, and the column has no index yet
abbrev pub checks_new_index : Catalog → Name → Table → ℕ → List Check
checks_new_index cat name t index =
    (is_table cat name, r.DuplicateTable)
    ∷ (is_index cat name, r.DuplicateTable)
    ∷ (is_indexed index t.indexes, r.DuplicateObject) ∷ []

abbrev pub checks_create_index : Catalog → Name → Name → Name → Name → List Check
checks_create_index cat actor name table column = if_found ((true, r.UndefinedTable) ∷ []) (λ t.
    (not (owns cat actor t), r.InsufficientPrivilege)
    ∷ if_found ((true, r.UndefinedColumn) ∷ []) (checks_new_index cat name t) (column_index t.columns column)) (table_named table cat)

abbrev pub after_create_index : Catalog → Name → Name → Name → Catalog
after_create_index cat name table column = with_table cat table (with_index name column)
