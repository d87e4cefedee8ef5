-- The indexes that are kept are those of the catalogue.
use Rattle.std.proofs.Common.{◌≡◌, ℕ, zero, suc, ◌+◌, Bool, true, false, cond, List, [], ◌∷◌, ◌++◌, length, map, set, get_or, find, take, Option, Some, None, option_map, Result, Ok, Err, refl, sym, ap, ap₂, ◌∙◌, append-nil}
use Rattle.std.proofs.lemmas.List.{map-append, take_at}
use Rattle.std.proofs.lemmas.List.Elements.{All-same, All-set}
use Rattle.std.proofs.Math.Seq.{map-set_same}
use Rattle.std.specs.Str.{bytes_eq}
use Rattle.std.specs.List.{position_from}
use Rattle.memory.proofs.Cases.{nil_is_not}
use Rattle.value.specs.Columns.{Column}
use Rattle.value.specs.Names.{Name}
use Rattle.value.specs.declared.refusal.Refusal.{Refusal}
use Rattle.tables.specs.Loading.{TableRows}
use Rattle.indexes.specs.declared.index.IndexRows.{IndexRows}
use Rattle.expr.specs.Bound.{BoundExpr}
use Rattle.row_ast.specs.Ast as ast
use Rattle.row_ast.specs.Statements.{Statement, CreateRole, GrantRole, RevokeRole, CreateTable, SetOwner, SetRowSecurity, CreateIndex, GrantSelect, RevokeSelect, CreatePolicy, DropPolicy}
use Rattle.row_ast.specs.declared.statement.RowSecurity.{RowSecurity}
use Rattle.row_ast.specs.declared.statement.RowSecurity.TheVariants.{Enable, Disable, Force, NoForce}
use Rattle.row_objects.specs.ColumnNames.{column_index}
use Rattle.row_objects.specs.Objects.{Index, Table}
use Rattle.row_objects.specs.TableChanges.{with_index, with_last, with_row_security}
use Rattle.row_objects.specs.TableDefs.{new_table}
use Rattle.catalog.specs.BindError.{BindError}
use Rattle.catalog.specs.Catalog.{Catalog, table_named}
use Rattle.catalog.specs.Checks.{first_changed}
use Rattle.catalog.specs.Changes.{IsChange, after, changed}
use Rattle.catalog.specs.CreatePolicy.{with_bound}
use Rattle.catalog.specs.PolicyPredicate.{bound_predicate}
use Rattle.catalog.specs.TableColumns.{columns_after, table_columns, with_columns}
use Rattle.catalog.proofs.KeptColumns.{keeps_columns, accepted}
use Rattle.store.specs.Agreement.{contents_columns}
use Rattle.store.specs.Database.{Database, changed_database, tables_after, with_catalog}
use Rattle.store.specs.Derived.{IsDerived, IsHeld, column_number, kept_columns, indexed_columns, table_indexes}
use Rattle.store.specs.declared.store.Store.TheInside.{Inside}
use Rattle.store.specs.Statements.{new_index_of}
use Rattle.store.specs.View.{stored_of}
use Rattle.store.specs.declared.stored.Stored.{Stored}
use Rattle.store.proofs.Derivations.{entry_of}
use Rattle.store.proofs.Places.{found_at, none_from, set_at}

-- ---- statements that make no index

abbrev of_table : Table → List ℕ
of_table t = indexed_columns t.indexes

one_changed : (p : Table → Bool) (f : Table → Table) → ((t : Table) → of_table (f t) ≡ of_table t) → (ts : List Table) → map of_table (first_changed p f ts) ≡ map of_table ts
one_changed p f same [] = refl
one_changed p f same (t ∷ ts) = go (p t) (one_changed p f same ts)
  where
    go : (b : Bool) → map of_table (first_changed p f ts) ≡ map of_table ts → map of_table (cond b (f t ∷ ts) (t ∷ first_changed p f ts)) ≡ of_table t ∷ map of_table ts
    go true more = ap (λ c. c ∷ map of_table ts) (same t)
    go false more = ap (λ cs. of_table t ∷ cs) more

secured : (setting : RowSecurity) (t : Table) → of_table (with_row_security setting t) ≡ of_table t
secured Enable t = refl
secured Disable t = refl
secured Force t = refl
secured NoForce t = refl

guarded : (p : ast.CreatePolicy) (t : Table) (bound : Result BoundExpr BindError) → of_table (with_bound p t bound) ≡ of_table t
guarded p t (Ok e) = refl
guarded p t (Err fault) = refl

-- the indexes after a statement that makes none: a new table has none
abbrev pub indexes_after : List (List ℕ) → Statement → List (List ℕ)
indexes_after known (CreateTable name columns) = known ++ [] ∷ []
indexes_after known _ = known

after_one : (cat : Catalog) (actor : Name) (s : Statement) → new_index_of s ≡ None → table_indexes (after cat actor s) ≡ indexes_after (table_indexes cat) s
after_one cat actor (CreateRole name superuser bypass_rls) h = refl
after_one cat actor (GrantRole group member) h = refl
after_one cat actor (RevokeRole group member) h = refl
after_one cat actor (CreateTable name columns) h = map-append of_table cat.tables (new_table actor name columns ∷ [])
after_one cat actor (SetOwner table owner) h = one_changed _ _ (λ t. refl) cat.tables
after_one cat actor (SetRowSecurity table setting) h = one_changed _ _ (secured setting) cat.tables
after_one cat actor (CreateIndex name table column) h = absurd (cc)
after_one cat actor (GrantSelect grant) h = one_changed _ _ (λ t. refl) cat.tables
after_one cat actor (RevokeSelect grant) h = one_changed _ _ (λ t. refl) cat.tables
after_one cat actor (CreatePolicy policy) h = one_changed _ _ (λ t. guarded policy t (bound_predicate t policy.predicate)) cat.tables
after_one cat actor (DropPolicy name table) h = one_changed _ _ (λ t. refl) cat.tables

pub keeps_indexes : (cat new : Catalog) (actor : Name) (s : Statement) → new_index_of s ≡ None → changed cat actor s ≡ Ok new → table_indexes new ≡ indexes_after (table_indexes cat) s
keeps_indexes cat new actor s h e = ap table_indexes (sym (accepted _ _ new e)) ∙ after_one cat actor s h

-- a statement that adds neither a table nor an index
pub still_indexed : (held : List (List ℕ)) (cat new : Catalog) (actor : Name) (s : Statement) (r : Result (Unit {0}) Refusal) → IsChange cat new (changed cat actor s) r → new_index_of s ≡ None → indexes_after (table_indexes cat) s ≡ table_indexes cat
    → held ≡ table_indexes cat → held ≡ table_indexes new
still_indexed held cat new actor s (Ok u) e none same indexed = indexed ∙ sym same ∙ sym (keeps_indexes cat new actor s none e)
still_indexed held cat new actor s (Err why) e none same indexed = indexed ∙ ap table_indexes (sym e.0)

-- ---- a table's name, its columns, and the columns of its indexes

abbrev pub Summary : Type 0
Summary = Name × List Column × List ℕ

abbrev pub of_entry : Table → Summary
of_entry t = (t.name, t.columns, of_table t)

abbrev pub of_stored : {A : Type 0} → Stored A → Summary
of_stored t = (t.name, t.contents.columns, kept_columns t.indexes.items)

-- with an index on the column of that name, if there is one
abbrev with_column : Name → Summary → Summary
with_column column s = (s.0, s.1, with_last s.2 (option_map column_number (column_index s.1 column)))

indexed_entry : (name column : Name) (t : Table) → of_entry (with_index name column t) ≡ with_column column (of_entry t)
indexed_entry name column t = go (column_index t.columns column)
  where
    go : (o : Option ℕ) → ◌≡◌ {A = Summary} (t.name, t.columns, indexed_columns (with_last t.indexes (option_map (λ index. let i : Index = record { name = name; column = index } in i) o))) (t.name, t.columns, with_last (of_table t) (option_map column_number o))
    go None = refl
    go (Some k) = ap (λ (l : List ℕ). let s : Summary = (t.name, t.columns, l) in s) (map-append (λ (i : Index). column_number i.column) t.indexes (record { name = name; column = k } ∷ []))

entries_changed : (p : Summary → Bool) (f : Summary → Summary) (g : Table → Table) → ((t : Table) → of_entry (g t) ≡ f (of_entry t)) → (cs : List Table) → map of_entry (first_changed (λ t. p (of_entry t)) g cs) ≡ first_changed p f (map of_entry cs)
entries_changed p f g same [] = refl
entries_changed p f g same (c ∷ cs) = go (p (of_entry c)) (entries_changed p f g same cs)
  where
    go : (b : Bool) → map of_entry (first_changed (λ t. p (of_entry t)) g cs) ≡ first_changed p f (map of_entry cs)
        → map of_entry (cond b (g c ∷ cs) (c ∷ first_changed (λ t. p (of_entry t)) g cs)) ≡ cond b (f (of_entry c) ∷ map of_entry cs) (of_entry c ∷ first_changed p f (map of_entry cs))
    go true more = ap (λ s. s ∷ map of_entry cs) (same c)
    go false more = ap (λ l. of_entry c ∷ l) more

three : (a a' : Name) (b b' : List Column) (c c' : List ℕ) → a ≡ a' → b ≡ b' → c ≡ c' → ◌≡◌ {A = Summary} (a, b, c) (a', b', c')
three a a' b b' c c' p q r = rw (p, q, r) refl

first_pair : {X : Type 0} (x y : X) (xs ys : List X) → x ∷ xs ≡ y ∷ ys → x ≡ y
first_pair x y xs ys e = cc

other_pairs : {X : Type 0} (x y : X) (xs ys : List X) → x ∷ xs ≡ y ∷ ys → xs ≡ ys
other_pairs x y xs ys e = cc

same_position : (p : Summary → Bool) (k : ℕ) (cs : List Table) → position_from (λ t. p (of_entry t)) k cs ≡ position_from p k (map of_entry cs)
same_position p k [] = refl
same_position p k (c ∷ cs) = ap (λ o. cond (p (of_entry c)) (Some k) o) (same_position p (k + 1) cs)

found_entry : (p : Summary → Bool) (cs : List Table) → find p (map of_entry cs) ≡ option_map of_entry (find (λ t. p (of_entry t)) cs)
found_entry p [] = refl
found_entry p (c ∷ cs) = go (p (of_entry c)) (found_entry p cs)
  where
    go : (b : Bool) → find p (map of_entry cs) ≡ option_map of_entry (find (λ t. p (of_entry t)) cs) → cond b (Some (of_entry c)) (find p (map of_entry cs)) ≡ option_map of_entry (cond b (Some c) (find (λ t. p (of_entry t)) cs))
    go true more = refl
    go false more = more

entries_of : (cs : List Table) → map (λ (s : Summary). s.2) (map of_entry cs) ≡ map of_table cs
entries_of [] = refl
entries_of (c ∷ cs) = ap (λ l. of_table c ∷ l) (entries_of cs)

some_same : {X : Type 0} (a b : X) → Some a ≡ Some b → a ≡ b
some_same a b e = cc

-- a statement that makes an index
pub created : (s : Statement) (table column : Name) → new_index_of s ≡ Some (table, column) → (name : Name) × (s ≡ CreateIndex name table column)
created (CreateIndex name t c) table column e =
    let both : ◌≡◌ {A = Name × Name} (t, c) (table, column) = some_same _ _ e in
    (name, ap₂ (CreateIndex name) (ap (λ (p : Name × Name). p.0) both) (ap (λ (p : Name × Name). p.1) both))
created (CreateRole name superuser bypass_rls) table column e = absurd (cc)
created (GrantRole group member) table column e = absurd (cc)
created (RevokeRole group member) table column e = absurd (cc)
created (CreateTable name columns) table column e = absurd (cc)
created (SetOwner t owner) table column e = absurd (cc)
created (SetRowSecurity t setting) table column e = absurd (cc)
created (GrantSelect grant) table column e = absurd (cc)
created (RevokeSelect grant) table column e = absurd (cc)
created (CreatePolicy policy) table column e = absurd (cc)
created (DropPolicy name t) table column e = absurd (cc)

-- it changes no contents
pub with_index_made : (database : Database) (new : Catalog) (actor : Name) (s : Statement) (table column : Name) → new_index_of s ≡ Some (table, column) → changed database.catalog actor s ≡ Ok new
    → changed_database database actor s ≡ Ok record { catalog = new; tables = database.tables }
with_index_made database new actor s table column is e =
    let it = created s table column is in
    ap (with_catalog database s) e ∙ ap (λ s. let r : Result Database Refusal = Ok record { catalog = new; tables = tables_after database.tables s } in r) it.1

-- of a table that is not there it changes nothing
pub none_made : (cat new : Catalog) (actor : Name) (s : Statement) (table column : Name) → new_index_of s ≡ Some (table, column) → position_from (λ t. bytes_eq table t.name) 0 cat.tables ≡ None
    → changed cat actor s ≡ Ok new → table_indexes new ≡ table_indexes cat
none_made cat new actor s table column is none e =
    let it = created s table column is in
    ap table_indexes (sym (accepted _ _ new e)) ∙ ap (λ s. table_indexes (after cat actor s)) it.1
    ∙ ap (map of_table) (none_from (λ t. bytes_eq table t.name) (with_index it.0 column) cat.tables 0 none).0

module _ {A : Type 0} where
  -- a new table has no index
  pub indexes_added : (xs ys : List (Stored A)) (x : Stored A) (cat new : Catalog) (actor name : Name) (s : Statement) (columns : List Column) → ys ≡ xs ++ x ∷ [] → x.indexes.items ≡ [] → s ≡ CreateTable name columns
      → changed cat actor s ≡ Ok new → map (λ t. kept_columns t.indexes.items) xs ≡ table_indexes cat → map (λ t. kept_columns t.indexes.items) ys ≡ table_indexes new
  indexes_added xs ys x cat new actor name s columns pushed none made e indexed =
      ap (map (λ (t : Stored A). kept_columns t.indexes.items)) pushed
      ∙ map-append (λ (t : Stored A). kept_columns t.indexes.items) xs (x ∷ [])
      ∙ ap₂ (λ (l : List (List ℕ)) (k : List (IndexRows A)). l ++ kept_columns k ∷ []) indexed none
      ∙ ap (indexes_after (table_indexes cat)) (sym made) ∙ sym (keeps_indexes cat new actor s (ap new_index_of made) e)

  same_summaries : (ts : List (Stored A)) (cs : List Table) → contents_columns (map (λ t. stored_of t) ts) ≡ map with_columns cs → map (λ t. kept_columns t.indexes.items) ts ≡ map of_table cs → map of_stored ts ≡ map of_entry cs
  same_summaries [] [] a b = refl
  same_summaries [] (c ∷ cs) a b = absurd (nil_is_not _ _ a)
  same_summaries (t ∷ ts) [] a b = absurd (nil_is_not _ _ (sym a))
  same_summaries (t ∷ ts) (c ∷ cs) a b =
      let first = first_pair _ _ _ _ a in
      ap₂ ◌∷◌ (three _ _ _ _ _ _ (ap (λ (x : Name × List Column). x.0) first) (ap (λ (x : Name × List Column). x.1) first) (first_pair _ _ _ _ b))
      (same_summaries ts cs (other_pairs _ _ _ _ a) (other_pairs _ _ _ _ b))

  kept_of : (ts : List (Stored A)) → map (λ (s : Summary). s.2) (map of_stored ts) ≡ map (λ t. kept_columns t.indexes.items) ts
  kept_of [] = refl
  kept_of (t ∷ ts) = ap (λ l. kept_columns t.indexes.items ∷ l) (kept_of ts)

  module _ (ts : List (Stored A)) (cat : Catalog) (agrees : contents_columns (map (λ t. stored_of t) ts) ≡ table_columns cat) (indexed : map (λ t. kept_columns t.indexes.items) ts ≡ table_indexes cat)
      (table : Name) (i : ℕ) (at : position_from (λ t. bytes_eq table t.name) 0 cat.tables ≡ Some i) (d : Stored A) where
    abbrev is_named : Summary → Bool
    is_named s = bytes_eq table s.0

    same : map of_stored ts ≡ map of_entry cat.tables
    same = same_summaries ts cat.tables agrees indexed

    place : position_from is_named 0 (map of_stored ts) ≡ Some i
    place = ap (position_from is_named 0) same ∙ sym (same_position is_named 0 cat.tables) ∙ at

    -- the table that is found has these indexes
    pub indexes_found : (t : Table) → table_named table cat ≡ Some t → kept_columns (get_or ts i d).indexes.items ≡ indexed_columns t.indexes
    indexes_found t h =
        let both : Some (of_stored (get_or ts i d)) ≡ Some (of_entry t) = sym (found_at is_named of_stored d ts i place) ∙ ap (find is_named) same ∙ found_entry is_named cat.tables ∙ ap (option_map of_entry) h in
        ap (λ (s : Summary). s.2) (some_same _ _ both)

    module _ (column : Name) (y : Stored A) (same_name : y.name ≡ (get_or ts i d).name) (same_contents : y.contents ≡ (get_or ts i d).contents)
        (made : kept_columns y.indexes.items ≡ with_last (kept_columns (get_or ts i d).indexes.items) (option_map column_number (column_index (get_or ts i d).contents.columns column))) where
      of_new : of_stored y ≡ with_column column (of_stored (get_or ts i d))
      of_new = three _ _ _ _ _ _ same_name (ap (λ (t : TableRows). t.columns) same_contents) made

      changed_entries : (name : Name) → map of_stored (set ts i y) ≡ map of_entry (first_changed (λ t. bytes_eq table t.name) (with_index name column) cat.tables)
      changed_entries name =
          set_at is_named of_stored d (with_column column) y ts i place of_new
          ∙ ap (first_changed is_named (with_column column)) same
          ∙ sym (entries_changed is_named (with_column column) (with_index name column) (indexed_entry name column) cat.tables)

      pub indexes_made : (new : Catalog) (actor : Name) (s : Statement) → new_index_of s ≡ Some (table, column) → changed cat actor s ≡ Ok new → map (λ t. kept_columns t.indexes.items) (set ts i y) ≡ table_indexes new
      indexes_made new actor s is e =
          let it = created s table column is in
          let due : after cat actor (CreateIndex it.0 table column) ≡ after cat actor s = ap (after cat actor) (sym it.1) in
          sym (kept_of (set ts i y)) ∙ ap (map (λ (x : Summary). x.2)) (changed_entries it.0) ∙ entries_of (first_changed (λ t. bytes_eq table t.name) (with_index it.0 column) cat.tables)
          ∙ ap table_indexes due ∙ ap table_indexes (accepted _ _ new e)

-- ---- contents that are the same but for their indexes

pub set_twice : {X : Type 0} (xs : List X) (i : ℕ) (y z : X) → set (set xs i y) i z ≡ set xs i z
set_twice [] i y z = refl
set_twice (x ∷ xs) zero y z = refl
set_twice (x ∷ xs) (suc i) y z = ap (λ l. x ∷ l) (set_twice xs i y z)

-- an index more, or none, is taken back
pub dropped : (known : List ℕ) (o : Option ℕ) (n : ℕ) → n ≡ length known → take n (with_last known o) ≡ known
dropped known None n e = rw append-nil at (take_at known [] n (sym e))
dropped known (Some k) n e = take_at known (k ∷ []) n (sym e)

module _ {A : Type 0} (s : Inside A) (held : IsHeld s) (i : ℕ) (x y : Stored A) (is : x ≡ get_or s.tables.items i x) (same_name : y.name ≡ x.name) (same_contents : y.contents ≡ x.contents) where
  same_entry : stored_of y ≡ stored_of (get_or s.tables.items i x)
  same_entry = ap₂ entry_of same_name same_contents ∙ ap (λ (t : Stored A). stored_of t) is

  pub same_entries : map (λ (t : Stored A). stored_of t) (set s.tables.items i y) ≡ map (λ (t : Stored A). stored_of t) s.tables.items
  same_entries = map-set_same (λ (t : Stored A). stored_of t) s.tables.items i y x same_entry

  pub replaced : (t : Inside A) → IsDerived y → t.tables.items ≡ set s.tables.items i y → table_columns t.catalog ≡ table_columns s.catalog → map (λ (t : Stored A). kept_columns t.indexes.items) (set s.tables.items i y) ≡ table_indexes t.catalog → IsHeld t
  replaced t derived items columns indexed = record {
    agrees = ap (λ ts. contents_columns (map (λ (t : Stored A). stored_of t) ts)) items ∙ ap contents_columns same_entries ∙ held.agrees ∙ sym columns;
    derived = All-same (λ (t : Stored A). IsDerived t) _ _ items (All-set (λ (t : Stored A). IsDerived t) s.tables.items i y derived held.derived);
    indexed = ap (map (λ (t : Stored A). kept_columns t.indexes.items)) items ∙ indexed;
  }

  -- with the same indexes too
  pub same_kept : kept_columns y.indexes.items ≡ kept_columns x.indexes.items → map (λ (t : Stored A). kept_columns t.indexes.items) (set s.tables.items i y) ≡ table_indexes s.catalog
  same_kept same = map-set_same (λ (t : Stored A). kept_columns t.indexes.items) s.tables.items i y x (same ∙ ap (λ (t : Stored A). kept_columns t.indexes.items) is) ∙ held.indexed

  -- with an index more, as the catalogue has
  pub one_kept : (table column : Name) (new : Catalog) (actor : Name) (st : Statement) → position_from (λ t. bytes_eq table t.name) 0 s.catalog.tables ≡ Some i
      → kept_columns y.indexes.items ≡ with_last (kept_columns x.indexes.items) (option_map column_number (column_index x.contents.columns column))
      → new_index_of st ≡ Some (table, column) → changed s.catalog actor st ≡ Ok new → map (λ (t : Stored A). kept_columns t.indexes.items) (set s.tables.items i y) ≡ table_indexes new
  one_kept table column new actor st at made of_st e =
      indexes_made s.tables.items s.catalog held.agrees held.indexed table i at x column y (same_name ∙ ap (λ (t : Stored A). t.name) is) (same_contents ∙ ap (λ (t : Stored A). t.contents) is)
      (made ∙ ap (λ (t : Stored A). with_last (kept_columns t.indexes.items) (option_map column_number (column_index t.contents.columns column))) is)
      new actor st of_st e

-- a statement that makes an index changes no column
pub same_columns : (cat new : Catalog) (actor : Name) (s : Statement) (table column : Name) → new_index_of s ≡ Some (table, column) → changed cat actor s ≡ Ok new → table_columns new ≡ table_columns cat
same_columns cat new actor s table column is e =
    let it = created s table column is in
    keeps_columns cat new actor s e ∙ ap (columns_after (table_columns cat)) it.1
