-- A load at the index of a table, and a database by its parts.
use Rattle.std.proofs.Common.{◌≡◌, ◌⊎◌, inl, inr, ℕ, Bool, true, false, cond, ◌-◌, List, [], ◌∷◌, ◌++◌, append-nil, take, map, set, get_or, find, Option, Some, None, IfSome, Result, Ok, Err, refl, sym, ap, subst, ◌∙◌, length}
use Rattle.std.proofs.lemmas.List.{take_at}
use Rattle.std.specs.List.{position_from}
use Rattle.value.specs.Datum.{Row}
use Rattle.value.specs.declared.refusal.Refusal.{Refusal}
use Rattle.value.specs.declared.refusal.Refusal.TheVariants as r
use Rattle.tables.specs.declared.LoadError.{LoadError}
use Rattle.tables.specs.declared.LoadError.TheVariants as faults
use Rattle.csv_records.specs.Left.{records_of}
use Rattle.tables.specs.declared.TheConstants.{MAX_ROWS}
use Rattle.tables.specs.Loading.{TableRows, Fields, StopsAfterGood, UnlessUnread, appended}
use Rattle.tables.proofs.Follow.{fault_appended, rows_appended}
use Rattle.memory.specs.Gives.{Gives, IsFailure}
use Rattle.memory.specs.declared.failure.Failure.{Failure}
use Rattle.memory.specs.declared.failure.Failure.TheVariants.{Error, OutOfMemory}
use Rattle.value.specs.Names.{Name}
use Rattle.row_ast.specs.Statements.{CreateTable, Statement}
use Rattle.catalog.specs.Catalog.{Catalog}
use Rattle.store.specs.declared.store.StoreError.TheVariants as errors
use Rattle.value.specs.Columns.{Column}
use Rattle.catalog.specs.Changes.{changed}
use Rattle.store.specs.Database.{Database, changed_database, empty_table, is_named, with_catalog}
use Rattle.store.specs.Loads.{IsFirstFault, IsLoad, IsLoadFrom, LoadStops, LoadsRows, due_rows, store_failure, store_result, with_rows}
use Rattle.store.proofs.Places.{set_at, found_at}

-- a fact of a value, if it is there
pub IfSome-map : {X : Type 0} (o : Option X) (P Q : X → Type 0) → ((x : X) → P x → Q x) → IfSome o P → IfSome o Q
IfSome-map None P Q f h = tt
IfSome-map (Some x) P Q f h = f x h

pub IfSome-all : {X : Type 0} (o : Option X) (P : X → Type 0) → ((x : X) → P x) → IfSome o P
IfSome-all None P f = tt
IfSome-all (Some x) P f = f x

-- a database is its catalogue and its tables
pub same_database : (cat cat' : Catalog) (ts ts' : List (Name × TableRows)) → cat' ≡ cat → ts' ≡ ts → ◌≡◌ {A = Database} record { catalog = cat'; tables = ts' } record { catalog = cat; tables = ts }
same_database cat cat' ts ts' a b = rw (a, b)

-- a new table comes last
pub added_table : (database : Database) (cat cat' : Catalog) (ts ts' : List (Name × TableRows)) (actor : Name) (statement : Statement) (name : Name) (columns : List Column) → record { catalog = cat; tables = ts } ≡ database → statement ≡ CreateTable name columns
    → changed cat actor statement ≡ Ok cat' → ts' ≡ ts ++ (name, empty_table columns) ∷ [] → changed_database database actor statement ≡ Ok record { catalog = cat'; tables = ts' }
added_table database cat cat' ts ts' actor statement name columns is create change all =
    subst (λ (d : Database). changed_database d actor statement ≡ Ok record { catalog = cat'; tables = ts' }) is (rw change (rw create (rw all refl)))

pub still_refused : (database : Database) (statement : Statement) (due : Result Catalog Refusal) (why : Refusal) → (why ≡ r.OutOfMemory) ⊎ (due ≡ Err why) → (why ≡ r.OutOfMemory) ⊎ (with_catalog database statement due ≡ Err why)
still_refused database statement due why (inl e) = inl e
still_refused database statement due why (inr e) = inr (rw e refl)

parts : (e e' : Name × TableRows) (rows : List Row) → e.0 ≡ e'.0 → e.1.columns ≡ e'.1.columns → e.1.rows ≡ e'.1.rows ++ rows → e ≡ with_rows rows e'
parts e e' rows a b c = rw (← a, ← b, ← c)

module _ {X : Type 0} (v : X → Name × TableRows) (name : Name) (x : X) (xs : List X) (i : ℕ)
    (at : position_from (is_named name) 0 (map v xs) ≡ Some i) (is : x ≡ get_or xs i x) where
  pub found : find (is_named name) (map v xs) ≡ Some (v x)
  found = found_at (is_named name) v x xs i at ∙ ap (λ (y : X). let o : Option (Name × TableRows) = Some (v y) in o) (sym is)

  -- the rows of the records came to the table's
  pub rows_loaded : (recs : List Fields) (y : X) (u : Unit {0}) → (v y).0 ≡ (v x).0 → (v y).1.columns ≡ (v x).1.columns → appended (v x).1.rows (due_rows (v x).1 recs) ≡ Ok (v y).1.rows
      → IsLoad (map v xs) (map v (set xs i y)) name recs (Ok u)
  rows_loaded recs y u same_name same_columns given =
      let h = rows_appended (v x).1.rows (v y).1.rows (due_rows (v x).1 recs) given in
      let whole : v y ≡ with_rows h.0 (v x) = parts (v y) (v x) h.0 same_name same_columns h.2 in
      (v x, h.0, found, h.1, set_at (is_named name) v x (with_rows h.0) y xs i at (whole ∙ ap (λ (z : X). with_rows h.0 (v z)) is))

  -- an error of the records
  pub fault_reported : (recs : List Fields) (new : List (Name × TableRows)) (e : Failure LoadError) → IsFailure e (appended (v x).1.rows (due_rows (v x).1 recs)) → IsLoad (map v xs) new name recs (Err (store_failure e))
  fault_reported recs new (Error e) h = (v x, found, fault_appended (v x).1.rows (due_rows (v x).1 recs) e h)
  fault_reported recs new OutOfMemory h = (v x, found)

  -- the rows before one that was not read
  pub stops_loaded : (recs : List Fields) (r : Result (Unit {0}) (Failure LoadError)) → StopsAfterGood (v x).1.columns (MAX_ROWS - length (v x).1.rows) recs r → LoadStops (map v xs) name recs (store_result r)
  stops_loaded recs (Ok u) h = tt
  stops_loaded recs (Err (Error e)) h = (v x, found, h)
  stops_loaded recs (Err OutOfMemory) h = (v x, found)

  first_fault : (old : List Row) (due : Result (List Row) LoadError) (e : LoadError) → UnlessUnread {Y = Unit {0}} (Err (Error e)) (appended old due ≡ Err e) → IsFirstFault due e
  first_fault old due faults.Header h = fault_appended old due faults.Header (h (λ row same. cc))
  first_fault old due (faults.Reader row) h = tt
  first_fault old due (faults.Cell row column) h = fault_appended old due (faults.Cell row column) (h (λ at same. cc))
  first_fault old due (faults.NotNull row column) h = fault_appended old due (faults.NotNull row column) (h (λ at same. cc))
  first_fault old due faults.TooMany h = fault_appended old due faults.TooMany (h (λ row same. cc))

  module _ (y : X) (same_name : (v y).0 ≡ (v x).0) (same_columns : (v y).1.columns ≡ (v x).1.columns) where
    loads_rows : (recs : List Fields) (r : Result (Unit {0}) (Failure LoadError)) → UnlessUnread r (Gives (λ _. (v y).1.rows) r (appended (v x).1.rows (due_rows (v x).1 recs)))
        → LoadsRows (map v xs) (map v (set xs i y)) name recs (store_result r)
    loads_rows recs (Ok u) h = rows_loaded recs y u same_name same_columns h
    loads_rows recs (Err (Error e)) h = (v x, found, first_fault (v x).1.rows (due_rows (v x).1 recs) e h)
    loads_rows recs (Err OutOfMemory) h = (v x, found)

    -- of records that are not known there are some
    loads_some : (r : Result (Unit {0}) (Failure LoadError)) → UnlessUnread r ((recs : List Fields) × Gives (λ _. (v y).1.rows) r (appended (v x).1.rows (due_rows (v x).1 recs)))
        → (recs : List Fields) × LoadsRows (map v xs) (map v (set xs i y)) name recs (store_result r)
    loads_some (Ok u) h = (h.0, loads_rows h.0 (Ok u) h.1)
    loads_some (Err (Error faults.Header)) h = let s = h (λ row same. cc) in (s.0, loads_rows s.0 (Err (Error faults.Header)) (λ _. s.1))
    loads_some (Err (Error (faults.Reader row))) h = ([], (v x, found, tt))
    loads_some (Err (Error (faults.Cell row column))) h = let s = h (λ at same. cc) in (s.0, loads_rows s.0 (Err (Error (faults.Cell row column))) (λ _. s.1))
    loads_some (Err (Error (faults.NotNull row column))) h = let s = h (λ at same. cc) in (s.0, loads_rows s.0 (Err (Error (faults.NotNull row column))) (λ _. s.1))
    loads_some (Err (Error faults.TooMany)) h = let s = h (λ row same. cc) in (s.0, loads_rows s.0 (Err (Error faults.TooMany)) (λ _. s.1))
    loads_some (Err OutOfMemory) h = ([], (v x, found))

    -- a load from a reader whose bytes may be known
    pub loaded_from : (known : Option (List ℕ)) (r : Result (Unit {0}) (Failure LoadError))
        → IfSome known (λ bytes. UnlessUnread r (Gives (λ _. (v y).1.rows) r (appended (v x).1.rows (due_rows (v x).1 (records_of bytes)))))
        → UnlessUnread r ((recs : List Fields) × Gives (λ _. (v y).1.rows) r (appended (v x).1.rows (due_rows (v x).1 recs)))
        → IfSome known (λ bytes. StopsAfterGood (v x).1.columns (MAX_ROWS - length (v x).1.rows) (records_of bytes) r)
        → IsLoadFrom known (map v xs) (map v (set xs i y)) name (store_result r)
    loaded_from None r exact some stops = loads_some r some
    loaded_from (Some bytes) r exact some stops = (loads_rows (records_of bytes) r exact, stops_loaded (records_of bytes) r stops)

-- there is no table of that name
pub none_loaded : (known : Option (List ℕ)) (old new : List (Name × TableRows)) (name : Name) → find (is_named name) old ≡ None → IsLoadFrom known old new name (Err (Error errors.UndefinedTable))
none_loaded None old new name e = ([], e)
none_loaded (Some bytes) old new name e = (e, tt)

-- a push, or none, is taken back
pub taken_back : {X : Type 0} (b : Bool) (prefix back : List X) (n : ℕ) → n ≡ length prefix → take n (cond b (prefix ++ back) prefix) ≡ prefix
taken_back true prefix back n e = take_at prefix back n (sym e)
taken_back false prefix back n e = rw append-nil at (take_at prefix [] n (sym e))
