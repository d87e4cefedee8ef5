-- The entries and columns of an admitted query: their names tell them apart, and are of the grammar.
use Rattle.std.proofs.Common.{◌≡◌, ◌<◌, ◌≤◌, ◌==◌, ℕ, zero, suc, Bool, true, false, ◌||◌, List, [], ◌∷◌, map, length, Some, Result, Ok, Err, refl, sym, ap, subst, ◌∙◌, arith}
use Rattle.std.specs.List.{All, AllByRecursion, Contains, IsDistinct, list_any, slice_get}
use Rattle.std.specs.Str.{bytes_eq}
use Rattle.std.proofs.lemmas.Bool.{eqb-true}
use Rattle.std.proofs.lemmas.List.Elements.{All-contains, All-from_recursion, recursion_from_All}
use Rattle.std.proofs.lemmas.Map.Keys.{IsDistinct-head, IsDistinct-tail}
use Rattle.value.specs.Columns.{Column}
use Rattle.value.specs.Names.{Name}
use Rattle.row_ast.specs.Ast.{Query}
use Rattle.row_objects.specs.ColumnNames.{has_name, has_name_twice}
use Rattle.row_objects.specs.Objects.{Index, Table}
use Rattle.scope.specs.declared.error.BindError.{BindError}
use Rattle.scope.specs.Entry.{Entry}
use Rattle.expr_texts.specs.Filters.{IsName}
use Rattle.plan_texts.specs.Reading.{HasColumn, HasEntry}
use Rattle.catalog.specs.Catalog.{Catalog}
use Rattle.catalog.specs.CreateTable.{most_columns}
use Rattle.catalog_laws.specs.WellFormed.{IsWellFormed, IsWellFormedTable}
use Rattle.resolve.specs.EntryTables.{AreTables}
use Rattle.resolve.specs.Resolved.{Bound, bound}
use Rattle.plan_laws.proofs.Aliases.{aliases_differ}
use Rattle.resolve.proofs.EntryTables.{given}
use Rattle.analysis.specs.Analysis.{admitted, admitted_query, permitted, query_read}
use Rattle.analysis.proofs.Admitted.{not_denied}
use Rattle.store.specs.Derived.{column_number, indexed_columns}
use Rattle.trailcheck.specs.Admissible.{is_listed}
use Rattle.bound_plans.specs.Entries.{plan_entries}
use Rattle.bound_plans.specs.Found.{Unmistakable}
use Rattle.plan_laws.proofs.OwnNames.{has_column, has_entry}
use Rattle.engine.specs.Settings.{indexed}
use Rattle.engine.proofs.Readable.{found_in, table_of}
use Rattle.plan_laws.specs.Names.{AreNames}

-- ---- the aliases

permitted_aliases : (cat : Catalog) (role : Name) (q : Query) (b : Bound) (r : Result Bound BindError) → bound cat q ≡ r → permitted cat role r ≡ Ok b → IsDistinct bytes_eq (map (λ (e : Entry). e.alias) b.entries)
permitted_aliases cat role q b (Err fault) is e = absurd (cc)
permitted_aliases cat role q b (Ok b') is e = subst (λ (b : Bound). IsDistinct bytes_eq (map (λ (e : Entry). e.alias) b.entries)) (not_denied b' b _ e) (aliases_differ cat q b' is)

pub admitted_aliases_differ : (cat : Catalog) (role : Name) (text : List ℕ) (b : Bound) → admitted cat role text ≡ Ok b → IsDistinct bytes_eq (map (λ (e : Entry). e.alias) b.entries)
admitted_aliases_differ cat role text b e =
    let read = given (admitted_query cat role) b (query_read cat role text) e in
    permitted_aliases cat role read.0 b (bound cat read.0) refl read.2

-- ---- the columns of a table

neither : (a b : Bool) → a ≡ false → b ≡ false → (a || b) ≡ false
neither false b h k = k
neither true b h k = absurd (cc)

no_name : (n : Name) (cs : List Column) → AllByRecursion (λ b. bytes_eq n b ≡ false) (map (λ (c : Column). c.name) cs) → has_name n cs ≡ false
no_name n [] h = refl
no_name n (c ∷ cs) h = neither (bytes_eq n c.name) (has_name n cs) h.0 (no_name n cs h.1)

named_once : (cs : List Column) → IsDistinct bytes_eq (map (λ (c : Column). c.name) cs) → has_name_twice cs ≡ false
named_once [] d = refl
named_once (c ∷ cs) d =
    neither (has_name c.name cs) (has_name_twice cs) (no_name c.name cs (IsDistinct-head bytes_eq c.name (map (λ (c : Column). c.name) cs) d)) (named_once cs (IsDistinct-tail bytes_eq c.name (map (λ (c : Column). c.name) cs) d))

-- ---- the columns of indexes

-- the number of a column of few is one more than its index
pub small_number : (column : ℕ) → column < most_columns → column_number column ≡ suc column
small_number column l = omega (arith, l)

listed : (n column : ℕ) (ixs : List Index) → n ≤ most_columns → AllByRecursion (λ (i : Index). i.column < n) ixs → list_any (λ c. c == column) (indexed_columns ixs) ≡ true → (j : ℕ) × (j < n) × (suc j ≡ column)
listed n column [] few h k = absurd (cc)
listed n column (i ∷ ixs) few h k = go (column_number i.column == column) refl k (listed n column ixs few h.1)
  where
    go : (b : Bool) → (column_number i.column == column) ≡ b → (b || list_any (λ c. c == column) (indexed_columns ixs)) ≡ true
        → (list_any (λ c. c == column) (indexed_columns ixs) ≡ true → (j : ℕ) × (j < n) × (suc j ≡ column)) → (j : ℕ) × (j < n) × (suc j ≡ column)
    go true is k more = (i.column, h.0, sym (small_number i.column (let l = h.0 in omega (arith, l, few))) ∙ eqb-true (column_number i.column) column is)
    go false is k more = more k

indexed_at : (es : List Entry) (i : ℕ) (e : Entry) → slice_get es i ≡ Some e → slice_get (indexed es) i ≡ Some (indexed_columns e.table.indexes)
indexed_at [] i e g = absurd (cc)
indexed_at (x ∷ xs) zero e g = let same : x ≡ e = cc in ap (λ (y : Entry). Some (indexed_columns y.table.indexes)) same
indexed_at (x ∷ xs) (suc i) e g = indexed_at xs i e g

-- ---- the entries of a query

module _ (cat : Catalog) (fit : IsWellFormed cat) (names : AreNames cat) (entries : List Entry) (are : AreTables cat entries) (aliases : IsDistinct bytes_eq (map (λ (e : Entry). e.alias) entries)) (alias_names : All (λ (e : Entry). IsName e.alias) entries) where
  module _ (i : ℕ) (e : Entry) (there : slice_get entries i ≡ Some e) where
    its_table : Contains cat.tables e.table
    its_table = found_in e.table.name cat.tables e.table (table_of cat entries i e are there)

    well : IsWellFormedTable cat e.table
    well = All-contains (IsWellFormedTable cat) cat.tables e.table fit.tables its_table

    its_names : All (λ (c : Column). IsName c.name) e.table.columns
    its_names = All-contains (λ (t : Table). All (λ (c : Column). IsName c.name) t.columns) cat.tables e.table names its_table

    pub entry_named : HasEntry (plan_entries entries) (suc i)
    entry_named = has_entry entries i e there aliases alias_names

    pub column_named : (j : ℕ) → j < length e.table.columns → HasColumn (plan_entries entries) (suc i) (suc j)
    column_named j within = has_column entries i e there well.column_names_differ its_names j within

    pub index_named : (column : ℕ) → is_listed column (slice_get (indexed entries) i) ≡ true → HasColumn (plan_entries entries) (suc i) column
    index_named column h =
        let own : is_listed column (Some (indexed_columns e.table.indexes)) ≡ true = ap (is_listed column) (sym (indexed_at entries i e there)) ∙ h in
        let it = listed (length e.table.columns) column e.table.indexes well.column_limit (recursion_from_All (λ (i : Index). i.column < length e.table.columns) e.table.indexes well.indexes_on_columns) own in
        subst (HasColumn (plan_entries entries) (suc i)) it.2 (column_named it.0 it.1)

    pub columns_few : length e.table.columns ≤ most_columns
    columns_few = well.column_limit

    column_once : has_name_twice e.table.columns ≡ false
    column_once = named_once e.table.columns well.column_names_differ

  each_once : (es : List Entry) → ((i : ℕ) (e : Entry) → slice_get es i ≡ Some e → has_name_twice e.table.columns ≡ false) → AllByRecursion (λ (e : Entry). has_name_twice e.table.columns ≡ false) es
  each_once [] h = tt
  each_once (e ∷ es) h = (h 0 e refl, each_once es (λ i x g. h (suc i) x g))

  pub unmistakable : Unmistakable entries
  unmistakable = record { aliases = aliases; columns = All-from_recursion (λ (e : Entry). has_name_twice e.table.columns ≡ false) entries (each_once entries column_once) }
