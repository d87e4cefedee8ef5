-- Contents that are the same in all that a role may read are the same to every text of it.
use Rattle.std.proofs.Common.{◌≡◌, ℕ, zero, suc, ◌+◌, ◌==◌, Bool, true, false, ◌||◌, if◌then◌else◌, cond, List, [], ◌∷◌, map, filter, find, Contains, Option, Some, None, Ok, refl, sym, ap, subst, ◌∙◌, arith}
use Rattle.std.specs.Prelude.{IsPermutation, option_map, slice_index_or, unwrap_or}
use Rattle.std.specs.List.{All, slice_get}
use Rattle.std.specs.Str.{bytes_eq}
use Rattle.std.proofs.lemmas.Bool.{eqb-true, eq-eqb}
use Rattle.std.proofs.lemmas.Option.{get_or_from_slice_get, slice_get-map, slice_get_within, unwrap_or-slice_get}
use Rattle.std.proofs.lemmas.List.{length-map}
use Rattle.std.proofs.lemmas.List.Sorted.{IsPermutation-map, IsPermutation-refl}
use Rattle.memory.proofs.Cases.{or_second, some_is}
use Rattle.value.specs.Columns.{Column}
use Rattle.value.specs.Datum.{Row}
use Rattle.value.specs.Names.{Name}
use Rattle.value.specs.Restricted.{IsWithin, is_one_of, restricted}
use Rattle.value.proofs.Restricted.{again}
use Rattle.row_objects.specs.Objects.{Table}
use Rattle.expr.specs.declared.bound.ColumnId.{ColumnId}
use Rattle.expr.specs.NamedColumns.{named_columns}
use Rattle.scope.specs.Entry.{Entry}
use Rattle.catalog.specs.Catalog.{Catalog, table_named}
use Rattle.access.specs.Access.{granted, select_on, visible}
use Rattle.access.specs.Needed.{select_any}
use Rattle.report.specs.Restricted as tables
use Rattle.report.specs.Restricted.{named_in}
use Rattle.resolve.specs.EntryTables.{AreTables}
use Rattle.resolve.specs.Resolved.{Bound}
use Rattle.resolve.proofs.EntryTables.{binds_tables}
use Rattle.analysis.specs.Analysis.{admitted}
use Rattle.query_laws.specs.Admitted.{IsGranted}
use Rattle.query_laws.proofs.Granted.{named_are_granted, tables_are_granted}
use Rattle.query_laws.proofs.Parts.{admitted_bound}
use Rattle.store.specs.Database.{Rows}
use Rattle.engine.specs.Answer.{reply_to, seen}
use Rattle.engine.specs.Hidden.{SeesSame}
use Rattle.engine.specs.Readable.{ReadsSame, granted_columns, granted_from, readable}
use Rattle.engine.proofs.HiddenRows.{same_reply}

-- ---- indexes in a list

itself : (i : ℕ) → (i == i) ≡ true
itself i = eq-eqb i i refl

-- ---- the columns that are granted

-- the index of a granted column is among them
granted_at : (cat : Catalog) (role : Name) (t : Table) (n j : ℕ) (cs : List Column) (c : Column) → slice_get cs j ≡ Some c → granted cat role (select_on t c.name) ≡ true → is_one_of (granted_from cat role t n cs) (n + j) ≡ true
granted_at cat role t n j [] c at h = absurd (cc)
granted_at cat role t n zero (x ∷ xs) c at h =
    let same : x ≡ c = some_is x c at in
    let is : granted cat role (select_on t x.name) ≡ true = subst (λ (y : Column). granted cat role (select_on t y.name) ≡ true) (sym same) h in
    let here : n + 0 ≡ n = omega arith in
    rw (is, here, itself n) refl
granted_at cat role t n (suc j) (x ∷ xs) c at h =
    let next : n + 1 + j ≡ n + suc j = omega arith in
    let rest : is_one_of (granted_from cat role t (n + 1) xs) (n + suc j) ≡ true = subst (λ k. is_one_of (granted_from cat role t (n + 1) xs) k ≡ true) next (granted_at cat role t (n + 1) j xs c at h) in
    past (granted cat role (select_on t x.name)) rest
  where
    past : (b : Bool) → is_one_of (granted_from cat role t (n + 1) xs) (n + suc j) ≡ true → is_one_of (if b then n ∷ granted_from cat role t (n + 1) xs else granted_from cat role t (n + 1) xs) (n + suc j) ≡ true
    past true h = or_second (n == (n + suc j)) _ h
    past false h = h

-- the columns of an entry that a query names are among those that are granted
named_granted : (cat : Catalog) (role : Name) (es : List Entry) (k : ℕ) (e : Entry) (ids : List ColumnId) → slice_get es k ≡ Some e → All (IsGranted cat role es) ids
    → IsWithin (map (λ id. id.column) (filter (λ id. id.entry == k) ids)) (granted_columns cat role e.table)
named_granted cat role es k e [] at h i is = absurd (cc)
named_granted cat role es k e (id ∷ ids) at h i is = go (id.entry == k) refl (named_granted cat role es k e ids at (λ j d l. h (suc j) d (omega arith)) i) is
  where
    first : id.entry ≡ k → id.column ≡ i → is_one_of (granted_columns cat role e.table) i ≡ true
    first here same =
        let it = h 0 id (omega arith) in
        let entry_is : it.entry ≡ e = some_is it.entry e (sym it.entry_is ∙ ap (slice_get es) here ∙ at) in
        let column_is : slice_get e.table.columns id.column ≡ Some it.column = subst (λ (x : Entry). slice_get x.table.columns id.column ≡ Some it.column) entry_is it.column_is in
        let held : granted cat role (select_on e.table it.column.name) ≡ true = subst (λ (x : Entry). granted cat role (select_on x.table it.column.name) ≡ true) entry_is it.is_granted in
        let from : 0 + id.column ≡ i = omega arith in
        subst (λ n. is_one_of (granted_columns cat role e.table) n ≡ true) from (granted_at cat role e.table 0 id.column e.table.columns it.column column_is held)

    either : (a b : Bool) → (id.column == i) ≡ a → id.entry ≡ k → is_one_of (map (λ id. id.column) (filter (λ id. id.entry == k) ids)) i ≡ b → (is_one_of (map (λ id. id.column) (filter (λ id. id.entry == k) ids)) i ≡ true → is_one_of (granted_columns cat role e.table) i ≡ true) → (a || b) ≡ true → is_one_of (granted_columns cat role e.table) i ≡ true
    either true b same here r rest is = first here (eqb-true id.column i same)
    either false b same here r rest is = rest (r ∙ is)

    go : (b : Bool) → (id.entry == k) ≡ b → (is_one_of (map (λ id. id.column) (filter (λ id. id.entry == k) ids)) i ≡ true → is_one_of (granted_columns cat role e.table) i ≡ true) → is_one_of (map (λ id. id.column) (cond b (id ∷ filter (λ id. id.entry == k) ids) (filter (λ id. id.entry == k) ids))) i ≡ true → is_one_of (granted_columns cat role e.table) i ≡ true
    go true here rest is = either (id.column == i) _ refl (eqb-true id.entry k here) refl rest is
    go false here rest is = rest is

-- ---- the tables of a bound query

pub found_in : (name : Name) (ts : List Table) (t : Table) → find (λ t. bytes_eq name t.name) ts ≡ Some t → Contains ts t
found_in name [] t e = absurd (cc)
found_in name (x ∷ ts) t e = go (bytes_eq name x.name) (found_in name ts t) e
  where
    go : (b : Bool) → (find (λ t. bytes_eq name t.name) ts ≡ Some t → Contains ts t) → cond b (Some x) (find (λ t. bytes_eq name t.name) ts) ≡ Some t → Contains (x ∷ ts) t
    go true rest e = (0, omega arith, some_is x t e)
    go false rest e = let it = rest e in (suc it.0, omega (arith, it.1), it.2)

pub table_of : (cat : Catalog) (es : List Entry) (k : ℕ) (e : Entry) → AreTables cat es → slice_get es k ≡ Some e → table_named e.table.name cat ≡ Some e.table
table_of cat [] k e h at = absurd (cc)
table_of cat (x ∷ es) zero e h at = let same : x ≡ e = some_is x e at in subst (λ (x : Entry). table_named x.table.name cat ≡ Some x.table) same h.0
table_of cat (x ∷ es) (suc k) e h at = table_of cat es k e h.1 at

-- ---- the law

module _ (cat : Catalog) (role : Name) (one other : Rows) (same : ReadsSame cat role one other) (text : List ℕ) (b : Bound) (is : admitted cat role text ≡ Ok b) where
  abbrev rows_at : Rows → ℕ → List Row
  rows_at rows k = slice_index_or (seen cat rows role b.entries) k []

  abbrev to_named : ℕ → List Row → List Row
  to_named k rows = map (restricted (named_in b.query k)) rows

  abbrev seen_at : Rows → Entry → List Row
  seen_at rows e = visible cat role e.table (rows e.table.name)

  rows_are : (rows : Rows) (k : ℕ) (o : Option Entry) → slice_get b.entries k ≡ o → rows_at rows k ≡ unwrap_or (option_map (seen_at rows) o) []
  rows_are rows k o at =
      sym (unwrap_or-slice_get (seen cat rows role b.entries) k []) ∙ ap (λ o. unwrap_or o []) (slice_get-map (seen_at rows) b.entries k ∙ ap (option_map (seen_at rows)) at)

  at_entry : (k : ℕ) (e : Entry) → slice_get b.entries k ≡ Some e → granted cat role (select_any e.table) ≡ true → IsPermutation (to_named k (rows_at one k)) (to_named k (rows_at other k))
  at_entry k e at any =
      let bound = admitted_bound cat role text b is in
      let named = table_of cat b.entries k e (binds_tables cat bound.0 b bound.1) at in
      let within = named_granted cat role b.entries k e (named_columns b.query) at (named_are_granted cat role text b is) in
      let bag = same e.table (found_in e.table.name cat.tables e.table named) any in
      let some = named_in b.query k in
      let all = granted_columns cat role e.table in
      let is_one : map (restricted some) (readable cat role e.table (one e.table.name)) ≡ to_named k (rows_at one k) = again some all (visible cat role e.table (one e.table.name)) within ∙ ap (to_named k) (sym (rows_are one k (Some e) at)) in
      let is_other : map (restricted some) (readable cat role e.table (other e.table.name)) ≡ to_named k (rows_at other k) = again some all (visible cat role e.table (other e.table.name)) within ∙ ap (to_named k) (sym (rows_are other k (Some e) at)) in
      let mapped = IsPermutation-map (restricted some) (readable cat role e.table (one e.table.name)) (readable cat role e.table (other e.table.name)) bag in
      subst (λ xs. IsPermutation xs (to_named k (rows_at other k))) is_one (subst (IsPermutation (map (restricted some) (readable cat role e.table (one e.table.name)))) is_other mapped)

  any_granted : (k : ℕ) (e : Entry) → slice_get b.entries k ≡ Some e → granted cat role (select_any e.table) ≡ true
  any_granted k e at =
      let held = tables_are_granted cat role text b is k e (slice_get_within b.entries k e at) in
      subst (λ (e : Entry). granted cat role (select_any e.table) ≡ true) (get_or_from_slice_get b.entries k e e at) held

  -- beyond the entries there are no rows
  at_index : (k : ℕ) (o : Option Entry) → slice_get b.entries k ≡ o → IsPermutation (to_named k (rows_at one k)) (to_named k (rows_at other k))
  at_index k None at = rw (rows_are one k None at, rows_are other k None at) (IsPermutation-refl [])
  at_index k (Some e) at = at_entry k e at (any_granted k e at)

  sees_same : tables.SeesSame b.query (seen cat one role b.entries) (seen cat other role b.entries)
  sees_same = record {
    entries = length-map b.entries (seen_at one) ∙ sym (length-map b.entries (seen_at other));
    rows = λ k. at_index k (slice_get b.entries k) refl;
  }

pub reads_sees : (cat : Catalog) (role : Name) (text : List ℕ) (one other : Rows) → ReadsSame cat role one other → SeesSame cat role text one other
reads_sees cat role text one other same b is = sees_same cat role one other same text b is

pub same_to_readers : (cat : Catalog) (role : Name) (text : List ℕ) (one other : Rows) → ReadsSame cat role one other → reply_to cat one role text ≡ reply_to cat other role text
same_to_readers cat role text one other same = same_reply cat role text one other (reads_sees cat role text one other same)
