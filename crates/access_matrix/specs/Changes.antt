-- What roles gain and lose by a change of the schema: what they read in a new database and not in an old one, and the other way round.
use Rattle.std.specs.Prelude.{ℕ, Bool, not, ◌&&◌, ◌||◌, codes, List, [], ◌∷◌, ◌++◌, map, filter, length, true, false}
use Rattle.std.specs.Str.{bytes_eq}
use Rattle.std.specs.List.{flat_map, list_any, range_with_len}
use Rattle.value.specs.Datum.{Datum, Row, null, text}
use Rattle.value.specs.Names.{Name}
use Rattle.store.specs.Database.{Database, rows_of}
use Rattle.access_matrix.specs.Matrix.{count}
use Rattle.access_matrix.specs.Reading.{columns_read, reads_row}
use Rattle.access_matrix.specs.Reasons.{joined}

-- ---- of a role and a table

-- the rows, by their numbers in the file, of which the role reads something in the new database and nothing in the old one
abbrev pub rows_gained : (old new : Database) → (role table : Name) → List ℕ
rows_gained old new role table = filter (λ number. reads_row new role table number && not (reads_row old role table number)) (range_with_len 0 (length (rows_of new table)))

abbrev pub is_among : Name → List Name → Bool
is_among name names = list_any (bytes_eq name) names

-- the columns that it reads in the new database and not in the old one
abbrev pub columns_gained : (old new : Database) → (role table : Name) → List Name
columns_gained old new role table = filter (λ column. not (is_among column (columns_read old role table))) (columns_read new role table)

abbrev pub are_any : {X : Type 0} → List X → Bool
are_any [] = false
are_any (x ∷ xs) = true

-- the role gains something; it loses something where it gains in the old database over the new one
abbrev pub gains : (old new : Database) → (role table : Name) → Bool
gains old new role table = are_any (rows_gained old new role table) || are_any (columns_gained old new role table)

-- ---- of all roles and tables

-- the names of the first list, and those of the second that are not among them
abbrev pub either : List Name → List Name → List Name
either first second = first ++ filter (λ name. not (is_among name first)) second

abbrev pub roles_of : Database → List Name
roles_of db = map (λ role. role.name) db.catalog.roles

abbrev pub tables_of : Database → List Name
tables_of db = map (λ t. t.name) db.catalog.tables

-- each role with each table of either database
abbrev pub pairs : (old new : Database) → List (Name × Name)
pairs old new = flat_map (λ role. map (λ table. (role, table)) (either (tables_of old) (tables_of new))) (either (roles_of old) (roles_of new))

-- null where there is none
abbrev pub names_value : List Name → Datum
names_value [] = null
names_value (name ∷ names) = text (joined (name ∷ names))

-- the role, the table, how many rows it gains and loses, and the columns that it gains and loses
abbrev pub change_row : (old new : Database) → Name × Name → Row
change_row old new pair =
    text pair.0
    ∷ text pair.1
    ∷ count (rows_gained old new pair.0 pair.1)
    ∷ count (rows_gained new old pair.0 pair.1)
    ∷ names_value (columns_gained old new pair.0 pair.1)
    ∷ names_value (columns_gained new old pair.0 pair.1)
    ∷ []

abbrev pub change_headings : List Name
change_headings = codes "role" ∷ codes "table" ∷ codes "rows_gained" ∷ codes "rows_lost" ∷ codes "columns_gained" ∷ codes "columns_lost" ∷ []

abbrev pub is_changed : (old new : Database) → Name × Name → Bool
is_changed old new pair = gains old new pair.0 pair.1 || gains new old pair.0 pair.1

-- a row for each role and table of which the role gains or loses something
abbrev pub change_rows : (old new : Database) → List Row
change_rows old new = map (λ pair. change_row old new pair) (filter (λ pair. is_changed old new pair) (pairs old new))

abbrev pub is_pair : Name × Name → Name × Name → Bool
is_pair pair other = bytes_eq pair.0 other.0 && bytes_eq pair.1 other.1

-- a role gains something of a table, and that pair is not among those that may
abbrev pub opens : (old new : Database) → (allowed : List (Name × Name)) → Bool
opens old new allowed = list_any (λ pair. gains old new pair.0 pair.1 && not (list_any (λ other. is_pair pair other) allowed)) (pairs old new)
