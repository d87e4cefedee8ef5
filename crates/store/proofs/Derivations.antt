-- What keeps the indexes of tables.
use Rattle.std.proofs.Common.{◌≡◌, All, ℕ, ◌<◌, List, length, map, get_or, take, ap, ap₂, sym, subst, ◌∙◌, arith, Option, Some, IfSome, Result, Ok}
use Rattle.std.proofs.lemmas.List.{length-map, take_at}
use Rattle.std.proofs.lemmas.List.Elements.{All-same}
use Rattle.value.specs.Datum.{Row}
use Rattle.value.specs.Columns.{Column}
use Rattle.tables.specs.declared.LoadError.{LoadError}
use Rattle.tables.specs.Loading.{TableRows, appended}
use Rattle.tables.proofs.Follow.{rows_appended}
use Rattle.value.specs.Names.{Name}
use Rattle.catalog.specs.TableColumns.{table_columns}
use Rattle.store.specs.declared.stored.Stored.{Stored}
use Rattle.store.specs.declared.store.Store.TheInside.{Inside}
use Rattle.store.specs.Agreement.{contents_columns}
use Rattle.store.specs.Derived.{IsDerived, IsHeld, kept_columns, first_rows, table_indexes}
use Rattle.store.specs.Database.{Database}
use Rattle.store.specs.View.{database_of, stored_of}

abbrev pub entry_of : Name → TableRows → Name × TableRows
entry_of name contents = (name, contents)

-- the first rows of a table to which rows were added are those of before
pub first_kept : (old new : TableRows) (n : ℕ) (due : Result (List Row) LoadError) → n ≡ length old.rows → new.columns ≡ old.columns → appended old.rows due ≡ Ok new.rows → first_rows n new ≡ old
first_kept old new n due count same_columns given =
    let more = rows_appended old.rows new.rows due given in
    let table : List Column → List Row → TableRows = λ columns rows. record { columns = columns; rows = rows } in
    ap₂ table same_columns (ap (take n) more.2 ∙ take_at old.rows more.0 n (sym count))

module _ {A : Type 0} where
  -- what is kept beside the contents at an index
  pub derived_at : (items : List (Stored A)) (i : ℕ) (t : Stored A) → i < length items → t ≡ get_or items i t → All (λ t. IsDerived t) items → IsDerived t
  derived_at items i t lt is all = subst (λ (t : Stored A). IsDerived t) (sym is) (all i t lt)

  pub index_within : (s : Inside A) (database : Database) (i : ℕ) → database_of s ≡ database → i < length database.tables → i < length s.tables.items
  index_within s database i is lt =
      let tables : length (map (λ t. stored_of t) s.tables.items) ≡ length database.tables = ap (λ (d : Database). length d.tables) is in
      omega (arith, length-map s.tables.items (λ (t : Stored A). stored_of t), tables)

  pub found_within : (s : Inside A) (database : Database) (found : Option ℕ) (i : ℕ) → database_of s ≡ database → IfSome found (λ i. i < length database.tables) → found ≡ Some i → i < length s.tables.items
  found_within s database found i is within there = index_within s database i is (subst (λ (o : Option ℕ). IfSome o (λ i. i < length database.tables)) there within)

  -- the same catalogue and the same tables
  pub still_held : (old new : Inside A) → new.catalog ≡ old.catalog → new.tables.items ≡ old.tables.items → IsHeld old → IsHeld new
  still_held old new catalog items held = record {
    agrees = ap (λ ts. contents_columns (map (λ (t : Stored A). stored_of t) ts)) items ∙ held.agrees ∙ ap table_columns (sym catalog);
    derived = All-same (λ (t : Stored A). IsDerived t) _ _ items held.derived;
    indexed = ap (map (λ (t : Stored A). kept_columns t.indexes.items)) items ∙ held.indexed ∙ ap table_indexes (sym catalog);
  }
