-- The access matrix: which role reads which rows and columns of which table, and why.
use Rattle.std.specs.Prelude.{ℕ, pos, nat_eq, if◌then◌else◌, codes, List, [], ◌∷◌, map, filter, length, None}
use Rattle.std.specs.List.{flat_map, list_all}
use Rattle.value.specs.Datum.{Datum, Row, int, text}
use Rattle.value.specs.Names.{Name}
use Rattle.value.specs.declared.refusal.Refusal.TheVariants.{UndefinedObject}
use Rattle.row_objects.specs.Objects.{Table}
use Rattle.catalog.specs.Catalog.{Catalog, is_role}
use Rattle.store.specs.Database.{Database, rows_of}
use Rattle.replies.specs.Reply.{Reply, Refused, Rows}
use Rattle.access_matrix.specs.Reading.{read_columns, reads}
use Rattle.access_matrix.specs.Reasons.{joined, reason_words}

-- how many there are
abbrev pub count : {X : Type 0} → List X → Datum
count xs = int (pos (length xs))

-- all columns, none, or the names of those that are read
abbrev pub columns_words : Table → List Name → List ℕ
columns_words t [] = codes "none"
columns_words t (name ∷ names) = if nat_eq (length (name ∷ names)) (length t.columns) then codes "all" else joined (name ∷ names)

-- the role, the table, the columns that it reads, the number of the rows that it reads something of, that of all rows, and why
abbrev pub matrix_row : Database → Name → Table → Row
matrix_row db role t =
    text role
    ∷ text t.name
    ∷ text (columns_words t (read_columns db.catalog role t))
    ∷ count (filter (reads db.catalog role t) (rows_of db t.name))
    ∷ count (rows_of db t.name)
    ∷ text (reason_words db.catalog role t)
    ∷ []

abbrev pub headings : List Name
headings = codes "role" ∷ codes "table" ∷ codes "columns" ∷ codes "rows" ∷ codes "of" ∷ codes "why" ∷ []

-- a row for each role and each table
abbrev pub matrix_rows : Database → List Name → List Row
matrix_rows db roles = flat_map (λ role. map (λ t. matrix_row db role t) db.catalog.tables) roles

-- the roles that are asked for, or all of them where none is
abbrev pub asked_roles : Catalog → List Name → List Name
asked_roles cat [] = map (λ role. role.name) cat.roles
asked_roles cat (name ∷ names) = name ∷ names

-- the matrix of some roles; it is refused where one of them is not there
abbrev pub matrix : Database → List Name → Reply
matrix db roles = if list_all (is_role db.catalog) roles then Rows headings (matrix_rows db (asked_roles db.catalog roles)) else Refused UndefinedObject None
