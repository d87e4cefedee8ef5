-- What is found of the rows and columns that a role reads.
use Rattle.std.proofs.Common.{◌≡◌, ℕ, zero, suc, ◌≤◌, Bool, true, false, ◌&&◌, cond, List, [], ◌∷◌, length, map, filter, find, get_or, Option, Some, None, Result, Ok, Err, IfOk, bytes_eq, refl, sym, ap, ◌∙◌, true≢false, arith}
use Rattle.std.specs.Prelude.{is_some, slice_get}
use Rattle.std.proofs.lemmas.Bool.{and_right}
use Rattle.std.proofs.lemmas.List.{length-map}
use Rattle.value.specs.Datum.{Row}
use Rattle.value.specs.Names.{Name}
use Rattle.row_objects.proofs.Paths.{same_text, text_same}
use Rattle.row_objects.specs.Objects.{Table}
use Rattle.catalog.specs.Catalog.{Catalog, is_role, is_table, table_named}
use Rattle.access.specs.Access.{granted, sees}
use Rattle.access.specs.Needed.{select_any}
use Rattle.tuples.specs.Guards.{AreSeen, Guard, shows}
use Rattle.store.specs.Database.{Database, contents_named, rows_held, rows_of}
use Rattle.tables.specs.Loading.{TableRows}
use Rattle.access_matrix.specs.Reading.{columns_of_table, columns_read, read_columns, reads, reads_of, reads_row}

-- ---- the rows of a table

module _ (cat : Catalog) (role : Name) (t : Table) where
  -- nothing is granted
  module _ (no_grant : granted cat role (select_any t) ≡ false) where
    none_read : (rows : List Row) → filter (reads cat role t) rows ≡ []
    none_read [] = refl
    none_read (r ∷ rs) = ap (λ b. cond (b && sees cat role t r) (r ∷ filter (reads cat role t) rs) (filter (reads cat role t) rs)) no_grant ∙ none_read rs

    pub none_counted : (rows : List Row) → length (filter (λ (b : Bool). b) []) ≡ length (filter (reads cat role t) rows)
    none_counted rows = ap length (sym (none_read rows))

    pub none_each : (row : Option Row) → false ≡ reads_of cat role (Some t) row
    none_each None = refl
    none_each (Some r) = ap (λ b. b && sees cat role t r) (sym no_grant)

  module _ (grant : granted cat role (select_any t) ≡ true) (guard : Guard) (shown : (row : Row) → shows role guard row ≡ sees cat role t row) where
    same : (row : Row) → shows role guard row ≡ reads cat role t row
    same row = shown row ∙ ap (λ b. b && sees cat role t row) (sym grant)

    counted : (rows : List Row) → length (filter (λ b. b) (map (shows role guard) rows)) ≡ length (filter (reads cat role t) rows)
    counted [] = refl
    counted (r ∷ rs) = go (shows role guard r) (reads cat role t r) (same r) (counted rs)
      where
        go : (a b : Bool) → a ≡ b → length (filter (λ b. b) (map (shows role guard) rs)) ≡ length (filter (reads cat role t) rs)
            → length (cond a (a ∷ filter (λ b. b) (map (shows role guard) rs)) (filter (λ b. b) (map (shows role guard) rs))) ≡ length (cond b (r ∷ filter (reads cat role t) rs) (filter (reads cat role t) rs))
        go true true e h = ap suc h
        go true false e h = absurd (true≢false e)
        go false true e h = absurd (true≢false (sym e))
        go false false e h = h

    each : (rows : List Row) (number : ℕ) → get_or (map (shows role guard) rows) number false ≡ reads_of cat role (Some t) (slice_get rows number)
    each [] number = refl
    each (r ∷ rs) zero = same r
    each (r ∷ rs) (suc number) = each rs number

    module _ {E : Type 0} (rows held : List Row) (is : rows ≡ held) where
      pub seen_within : (res : Result (List Bool) E) → IfOk res (λ m. AreSeen role guard held m) → IfOk res (λ m. length m ≤ length rows)
      seen_within (Err e) h = tt
      seen_within (Ok m) h = let n = ap length h ∙ length-map held (shows role guard) in let l = ap length is in omega arith

      pub seen_counted : (res : Result (List Bool) E) → IfOk res (λ m. AreSeen role guard held m) → IfOk res (λ m. length (filter (λ b. b) m) ≡ length (filter (reads cat role t) rows))
      seen_counted (Err e) h = tt
      seen_counted (Ok m) h = ap (λ m. length (filter (λ b. b) m)) h ∙ counted held ∙ ap (λ rows. length (filter (reads cat role t) rows)) (sym is)

      pub seen_each : (res : Result (List Bool) E) → IfOk res (λ m. AreSeen role guard held m) → IfOk res (λ m. (number : ℕ) → get_or m number false ≡ reads_of cat role (Some t) (slice_get rows number))
      seen_each (Err e) h = tt
      seen_each (Ok m) h = λ number. ap (λ m. get_or m number false) h ∙ each held number ∙ ap (λ rows. reads_of cat role (Some t) (slice_get rows number)) (sym is)

-- the rows of the contents
pub rows_there : (db : Database) (name : Name) (contents : TableRows) → contents_named db.tables name ≡ Some contents → rows_of db name ≡ contents.rows
rows_there db name contents h = ap rows_held h

-- ---- the table of a name

find_passes : {X : Type 0} (p : X → Bool) (xs : List X) (x : X) → Some x ≡ find p xs → p x ≡ true
find_passes p [] x h = absurd (cc)
find_passes p (y ∷ ys) x h = go (p y) refl h (find_passes p ys x)
  where
    go : (b : Bool) → p y ≡ b → Some x ≡ cond b (Some y) (find p ys) → (Some x ≡ find p ys → p x ≡ true) → p x ≡ true
    go true e h more = let same : x ≡ y = cc in ap p same ∙ e
    go false e h more = more h

-- a table of the catalogue is found by its name
pub there_at : (ts : List Table) (i : ℕ) (t : Table) → slice_get ts i ≡ Some t → is_some (find (λ u. bytes_eq t.name u.name) ts) ≡ true
there_at [] i t h = absurd (cc)
there_at (u ∷ us) zero t h = let same : t ≡ u = cc in ap (λ b. is_some (cond b (Some u) (find (λ u. bytes_eq t.name u.name) us))) (same_text t.name u.name (ap (λ (t : Table). t.name) same))
there_at (u ∷ us) (suc i) t h = go (bytes_eq t.name u.name) (there_at us i t h)
  where
    go : (b : Bool) → is_some (find (λ u. bytes_eq t.name u.name) us) ≡ true → is_some (cond b (Some u) (find (λ u. bytes_eq t.name u.name) us)) ≡ true
    go true e = refl
    go false e = e

module _ (cat : Catalog) (name : Name) (t : Table) (found : Some t ≡ table_named name cat) where
  pub its_name : name ≡ t.name
  its_name = text_same name t.name (find_passes (λ t. bytes_eq name t.name) cat.tables t found)

  pub it_is_there : is_table cat t.name ≡ true
  it_is_there = ap (λ n. is_table cat n) (sym its_name) ∙ ap is_some (sym found)

-- ---- a role and a table by their names

module _ (db : Database) (role table : Name) where
  module _ (no_role : is_role db.catalog role ≡ false) where
    pub no_rows : (number : ℕ) → false ≡ reads_row db role table number
    no_rows number = ap (λ b. b && reads_of db.catalog role (table_named table db.catalog) (slice_get (rows_of db table) number)) (sym no_role)

    pub no_columns : [] ≡ columns_read db role table
    no_columns = ap (λ b. cond b (columns_of_table db.catalog role (table_named table db.catalog)) []) (sym no_role)

  module _ (no_table : None ≡ table_named table db.catalog) where
    pub no_rows_of : (number : ℕ) → false ≡ reads_row db role table number
    no_rows_of number = sym (and_right (is_role db.catalog role) (reads_of db.catalog role (table_named table db.catalog) (slice_get (rows_of db table) number))
        (ap (λ o. reads_of db.catalog role o (slice_get (rows_of db table) number)) (sym no_table)))

    pub no_columns_of : [] ≡ columns_read db role table
    no_columns_of = go (is_role db.catalog role) ∙ ap (λ o. cond (is_role db.catalog role) (columns_of_table db.catalog role o) []) no_table
      where
        go : (b : Bool) → [] ≡ cond b (columns_of_table db.catalog role None) []
        go true = refl
        go false = refl

  module _ (a_role : is_role db.catalog role ≡ true) (t : Table) (found : Some t ≡ table_named table db.catalog) where
    pub its_rows : (number : ℕ) → reads_of db.catalog role (Some t) (slice_get (rows_of db t.name) number) ≡ reads_row db role table number
    its_rows number =
        ap (λ o. reads_of db.catalog role o (slice_get (rows_of db t.name) number)) found
        ∙ ap (λ n. reads_of db.catalog role (table_named table db.catalog) (slice_get (rows_of db n) number)) (sym (its_name db.catalog table t found))
        ∙ ap (λ b. b && reads_of db.catalog role (table_named table db.catalog) (slice_get (rows_of db table) number)) (sym a_role)

    pub its_columns : read_columns db.catalog role t ≡ columns_read db role table
    its_columns = ap (λ o. columns_of_table db.catalog role o) found ∙ ap (λ b. cond b (columns_of_table db.catalog role (table_named table db.catalog)) []) (sym a_role)
