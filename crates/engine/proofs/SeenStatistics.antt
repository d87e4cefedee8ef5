-- The statistics of the rows that a role sees: what they depend on, and how they are gathered.
use Rattle.std.proofs.Common.{◌≡◌, ℕ, zero, suc, ◌+◌, ◌<◌, ◌==◌, Bool, true, false, ◌||◌, cond, List, [], ◌∷◌, ◌++◌, length, map, filter, drop, get_or, slice_index_or, Contains, refl, sym, ap, ap₂, subst, ◌∙◌, arith, append_assoc, inl, inr}
use Rattle.std.specs.Prelude.{IsPermutation, Some}
use Rattle.std.specs.List.{flat_map}
use Rattle.std.proofs.lemmas.Bool.{eqb-true}
use Rattle.std.proofs.lemmas.Grind.{flat_map-append}
use Rattle.std.proofs.lemmas.List.{drop_more, get_or-map, map-append}
use Rattle.std.proofs.lemmas.List.Elements.{Contains-append_cases}
use Rattle.value.specs.Datum.{Row, bool}
use Rattle.value.specs.Names.{Name}
use Rattle.value.specs.Restricted.{IsWithin, is_one_of, restricted}
use Rattle.expr.specs.declared.bound.ColumnId.{ColumnId}
use Rattle.expr.specs.BoundQuery.{BoundQuery}
use Rattle.expr.specs.Columns.{columns}
use Rattle.expr.specs.Conjuncts.{conjuncts, left_ons, movable_conjuncts}
use Rattle.expr.specs.Movable.{movable}
use Rattle.expr.specs.NamedColumns.{named_columns}
use Rattle.eval.specs.Laws.{AgreeOn}
use Rattle.eval.specs.Meaning.{Cells}
use Rattle.memory.proofs.Cases.{some_is}
use Rattle.row_objects.specs.Objects.{Table}
use Rattle.scope.specs.Entry.{Entry}
use Rattle.catalog.specs.Catalog.{Catalog, table_named}
use Rattle.access.specs.Access.{sees, visible}
use Rattle.tuples.specs.Guards.{Guard, shows}
use Rattle.resolve.specs.EntryTables.{AreTables}
use Rattle.store.specs.Agreement.{Agrees}
use Rattle.store.specs.Database.{Database, Rows, contents_named, rows_held, rows_of}
use Rattle.store.specs.Loading.{TableRows}
use Rattle.store.proofs.Agreement.{each_contents}
use Rattle.stats.specs.Statistics.{Stats, seen_stats}
use Rattle.stats.proofs.Seen.{seen_alike}
use Rattle.report.specs.Restricted.{SeesSame, columns_at, named_in}
use Rattle.report.proofs.NamedColumns.{agree_conjuncts, agree_lefts, agree_some}
use Rattle.report.proofs.Restricting.{place_among}
use Rattle.engine.specs.Answer.{seen}
use Rattle.engine.specs.SeenStatistics.{entry_statistics, planned_columns}
use Rattle.engine.proofs.Steps.{as_long, filter_same}

-- ---- the planned columns are named

-- a row in which each column is true, and one in which those are that the query names
abbrev all_true : Cells
all_true = record { column = λ id. bool true; aggregate = λ offset. bool true }

abbrev named_true : BoundQuery → Cells
named_true q = record { column = λ id. bool (is_one_of (named_in q id.entry) id.column); aggregate = λ offset. bool true }

named_alike : (q : BoundQuery) → AgreeOn (named_columns q) all_true (named_true q)
named_alike q = record {
  columns = λ id within. ap bool (sym (place_among (named_columns q) id within));
  aggregates = λ offset. refl;
}

is_true : (b : Bool) → bool true ≡ bool b → b ≡ true
is_true true e = refl
is_true false e = absurd (cc)

each_named : (q : BoundQuery) (id : ColumnId) → Contains (planned_columns q) id → is_one_of (named_in q id.entry) id.column ≡ true
each_named q id within =
    let movables : AgreeOn (flat_map columns (movable_conjuncts q)) all_true (named_true q) = agree_some all_true (named_true q) movable (conjuncts q) (agree_conjuncts all_true (named_true q) q (named_alike q)) in
    let lefts : AgreeOn (flat_map columns (left_ons q)) all_true (named_true q) = agree_lefts all_true (named_true q) q (named_alike q) in
    let apart : planned_columns q ≡ flat_map columns (movable_conjuncts q) ++ flat_map columns (left_ons q) = flat_map-append columns (movable_conjuncts q) (left_ons q) in
    let there : Contains (flat_map columns (movable_conjuncts q) ++ flat_map columns (left_ons q)) id = subst (λ ids. Contains ids id) apart within in
    elim (Contains-append_cases (flat_map columns (movable_conjuncts q)) (flat_map columns (left_ons q)) id there) [
      | inl here ↦ is_true _ (movables.columns id here)
      | inr here ↦ is_true _ (lefts.columns id here)
    ]

-- a column of an entry is one of the columns
found_at : (entry column : ℕ) (ids : List ColumnId) → is_one_of (columns_at entry ids) column ≡ true → (id : ColumnId) × Contains ids id × (id.entry ≡ entry) × (id.column ≡ column)
found_at entry column [] h = absurd (cc)
found_at entry column (x ∷ ids) h = go (x.entry == entry) refl (found_at entry column ids) h
  where
    Found : List ColumnId → Type 0
    Found all = (id : ColumnId) × Contains all id × (id.entry ≡ entry) × (id.column ≡ column)

    later : Found ids → Found (x ∷ ids)
    later (id, (k, less, is), e, c) = (id, (suc k, omega (arith, less), is), e, c)

    either : (b : Bool) → (x.column == column) ≡ b → x.entry ≡ entry → (is_one_of (columns_at entry ids) column ≡ true → Found ids) → (b || is_one_of (columns_at entry ids) column) ≡ true → Found (x ∷ ids)
    either true here e rest h = (x, (zero, omega arith, refl), e, eqb-true x.column column here)
    either false here e rest h = later (rest h)

    go : (b : Bool) → (x.entry == entry) ≡ b → (is_one_of (columns_at entry ids) column ≡ true → Found ids)
        → is_one_of (map (λ id. id.column) (cond b (x ∷ filter (λ id. id.entry == entry) ids) (filter (λ id. id.entry == entry) ids))) column ≡ true → Found (x ∷ ids)
    go true e rest h = either (x.column == column) refl (eqb-true x.entry entry e) rest h
    go false e rest h = later (rest h)

planned_within : (q : BoundQuery) (entry : ℕ) → IsWithin (columns_at entry (planned_columns q)) (named_in q entry)
planned_within q entry column h =
    let (id, within, e, c) = found_at entry column (planned_columns q) h in
    subst (λ n. is_one_of (named_in q n) column ≡ true) e (subst (λ n. is_one_of (named_in q id.entry) n ≡ true) c (each_named q id within))

-- ---- rows that are the same bag in the named columns have the same statistics

abbrev named_at : BoundQuery → ℕ → List Row → List Row
named_at q entry rows = map (restricted (named_in q entry)) rows

same_from : (q : BoundQuery) (n : ℕ) (es : List Entry) (one other : List (List Row)) → length one ≡ length other → ((k : ℕ) → IsPermutation (named_at q (n + k) (slice_index_or one k [])) (named_at q (n + k) (slice_index_or other k [])))
    → entry_statistics q n es one ≡ entry_statistics q n es other
same_from q n [] one other long same = refl
same_from q n (e ∷ es) [] [] long same = refl
same_from q n (e ∷ es) [] (rows ∷ other) long same = absurd (omega (arith, long))
same_from q n (e ∷ es) (rows ∷ one) [] long same = absurd (omega (arith, long))
same_from q n (e ∷ es) (rows ∷ one) (rows' ∷ other) long same =
    let here : n + 0 ≡ n = omega arith in
    let first : IsPermutation (named_at q n rows) (named_at q n rows') = subst (λ m. IsPermutation (named_at q m rows) (named_at q m rows')) here (same 0) in
    let later = λ (k : ℕ). let next : n + suc k ≡ n + 1 + k = omega arith in subst (λ m. IsPermutation (named_at q m (slice_index_or one k [])) (named_at q m (slice_index_or other k []))) next (same (suc k)) in
    ap₂ ◌∷◌ (seen_alike (columns_at n (planned_columns q)) (named_in q n) (length e.table.columns) rows rows' (planned_within q n) first) (same_from q (n + 1) es one other (omega (arith, long)) later)

pub same_statistics : (q : BoundQuery) (es : List Entry) (one other : List (List Row)) → SeesSame q one other → entry_statistics q 0 es one ≡ entry_statistics q 0 es other
same_statistics q es one other same =
    same_from q 0 es one other same.entries (λ k. let e : k ≡ 0 + k = omega arith in subst (λ m. IsPermutation (named_at q m (slice_index_or one k [])) (named_at q m (slice_index_or other k []))) e (same.rows k))

-- ---- the rows of a table

-- contents that the store has of a table are its rows, with as many columns as the catalogue has
pub of_contents : (database : Database) (name : Name) (t : Table) → Agrees database → table_named name database.catalog ≡ Some t → (contents : TableRows) → contents_named database.tables name ≡ Some contents
    → (length contents.columns ≡ length t.columns) × (contents.rows ≡ rows_of database name)
of_contents database name t agrees named contents held =
    let (found, is, columns) = each_contents database name t agrees named in
    let same : found ≡ contents = some_is found contents (sym is ∙ held) in
    (ap (λ (c : TableRows). length c.columns) (sym same) ∙ ap length columns, sym (ap rows_held held))

-- ---- the walk that gathers them

-- each entry has its table
pub table_at : {E : Type 0} (entry : E → Entry) (cat : Catalog) (es : List E) (k : ℕ) (e : E) → AreTables cat (map entry es) → k < length es → e ≡ get_or es k e → table_named (entry e).table.name cat ≡ Some (entry e).table
table_at entry cat [] k e h lt is = absurd (omega (arith, lt))
table_at entry cat (x ∷ es) zero e h lt is = subst (λ x. table_named (entry x).table.name cat ≡ Some (entry x).table) (sym is) h.0
table_at entry cat (x ∷ es) (suc k) e h lt is = table_at entry cat es k e h.1 (omega (arith, lt)) is

-- tests of a guard and of an entry at the same index are the same
same_test : {E G : Type 0} (f : G → Bool) (p : E → Bool) (gs : List G) (es : List E) (n : ℕ) (g : G) (e : E) → map f gs ≡ map p es → n < length gs → n < length es → g ≡ get_or gs n g → e ≡ get_or es n e → f g ≡ p e
same_test f p gs es n g e same less lt is_g is_e =
    ap f is_g ∙ sym (get_or-map f gs n g false less) ∙ ap (λ bs. get_or bs n false) same ∙ get_or-map p es n e false lt ∙ ap p (sym is_e)

module _ {E G : Type 0} (entry : E → Entry) (guard : G → Guard) (cat : Catalog) (role : Name) (es : List E) (gs : List G) (shown : (row : Row) → map (λ g. shows role (guard g) row) gs ≡ map (λ e. sees cat role (entry e).table row) es) where
  -- so a guard shows a row where the role sees it
  pub shows_at : (n : ℕ) (g : G) (e : E) → n < length es → g ≡ get_or gs n g → e ≡ get_or es n e → (row : Row) → shows role (guard g) row ≡ sees cat role (entry e).table row
  shows_at n g e lt is_g is_e row =
      let long = as_long (λ g. shows role (guard g) []) (λ e. sees cat role (entry e).table []) gs es (shown []) in
      same_test (λ g. shows role (guard g) row) (λ e. sees cat role (entry e).table row) gs es n g e (shown row) (omega (arith, long, lt)) lt is_g is_e

  -- and what it shows is what the role sees
  pub shown_at : (n : ℕ) (g : G) (e : E) → n < length es → g ≡ get_or gs n g → e ≡ get_or es n e → (rows : List Row) → filter (shows role (guard g)) rows ≡ visible cat role (entry e).table rows
  shown_at n g e lt is_g is_e rows = filter_same (shows role (guard g)) (sees cat role (entry e).table) (shows_at n g e lt is_g is_e) rows

module _ {E S : Type 0} (entry : E → Entry) (view : S → Stats) (cat : Catalog) (rows : Rows) (role : Name) (q : BoundQuery) where
  abbrev to_come : ℕ → List E → List Stats
  to_come n es = entry_statistics q n (map entry es) (seen cat rows role (map entry es))

  pub next_seen : (ss : List S) (es : List E) (n : ℕ) (e : E) (s : S) (new : List S) {whole : List Stats} → n < length es → e ≡ get_or es n e → new ≡ ss ++ s ∷ []
      → view s ≡ seen_stats (columns_at n (planned_columns q)) (length (entry e).table.columns) (visible cat role (entry e).table (rows (entry e).table.name))
      → map view ss ++ to_come n (drop n es) ≡ whole → map view new ++ to_come (n + 1) (drop (n + 1) es) ≡ whole
  next_seen ss es n e s new lt is made same so_far =
      let rest = to_come (n + 1) (drop (n + 1) es) in
      ap (λ l. map view l ++ rest) made
      ∙ ap (λ l. l ++ rest) (map-append view ss (s ∷ []))
      ∙ append_assoc (map view ss) (view s ∷ []) rest
      ∙ ap (λ x. map view ss ++ x ∷ rest) same
      ∙ ap (λ x. map view ss ++ to_come n (x ∷ drop (n + 1) es)) is
      ∙ ap (λ l. map view ss ++ to_come n l) (sym (drop_more es n e lt))
      ∙ so_far

-- as many as entries, where rows are seen of each
pub as_many : (q : BoundQuery) (n : ℕ) (f : Entry → List Row) (es : List Entry) → length (entry_statistics q n es (map f es)) ≡ length es
as_many q n f [] = refl
as_many q n f (e ∷ es) = ap suc (as_many q (n + 1) f es)
