-- What is kept beside the contents of each table: its indexes.
use Rattle.std.specs.Prelude.{◌≡◌, ℕ, ◌+◌, ◌-◌, ◌^◌, List, All, Some, map, min, take}
use Rattle.value.specs.Names.{Name}
use Rattle.tables.specs.Loading.{TableRows}
use Rattle.indexes.specs.Indexes.{AreIndexes, IsIndex}
use Rattle.indexes.specs.declared.index.IndexRows.{IndexRows}
use Rattle.row_objects.specs.Objects.{Index, Table}
use Rattle.catalog.specs.Catalog.{Catalog, table_named}
use Rattle.store.specs.declared.stored.Stored.{Stored}
use Rattle.store.specs.declared.store.Store.TheInside.{Inside}
use Rattle.store.specs.Agreement.{Agrees}
use Rattle.store.specs.Database.{Database, rows_of}
use Rattle.store.specs.View.{database_of}

-- the columns with the first so many rows
abbrev pub first_rows : ℕ → TableRows → TableRows
first_rows n t = record { columns = t.columns; rows = take n t.rows }

-- the indexes are those of the contents
abbrev pub AreDerived : {A : Type 0} → (contents : TableRows) → List (IndexRows A) → Type 0
AreDerived contents indexes = All (λ i. IsIndex contents.rows (i.column - 1) i.numbers) indexes

abbrev pub IsDerived : {A : Type 0} → Stored A → Type 0
IsDerived t = AreDerived t.contents t.indexes.items

-- ---- the columns of indexes

-- the number of a column, from 1, as plans have it: of 64 bits
abbrev pub column_number : ℕ → ℕ
column_number column = min (column + 1) (2 ^ 64 - 1)

-- the columns of indexes of the catalogue, by their numbers
abbrev pub indexed_columns : List Index → List ℕ
indexed_columns indexes = map (λ i. column_number i.column) indexes

-- those of each table, in order of creation
abbrev pub table_indexes : Catalog → List (List ℕ)
table_indexes cat = map (λ t. indexed_columns t.indexes) cat.tables

-- the columns of indexes that are kept
abbrev pub kept_columns : {A : Type 0} → List (IndexRows A) → List ℕ
kept_columns indexes = map (λ i. i.column) indexes

-- these are the indexes of the rows of the table of that name, on the columns that have one in the catalogue
abbrev pub HasIndexes : {A : Type 0} → Database → Name → List (IndexRows A) → Type 0
HasIndexes database name these = (t : Table) → table_named name database.catalog ≡ Some t → AreIndexes (rows_of database name) (indexed_columns t.indexes) these

-- the contents agree with the catalogue, what is kept beside them is derived from them, and there is an index for each of the
-- catalogue
pub record IsHeld {A : Type 0} (s : Inside A) : Type 0 where
  pub agrees : Agrees (database_of s)
  pub derived : All (λ t. IsDerived t) s.tables.items
  pub indexed : map (λ t. kept_columns t.indexes.items) s.tables.items ≡ table_indexes s.catalog
