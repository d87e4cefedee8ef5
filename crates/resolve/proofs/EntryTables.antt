-- The entries of FROM are of tables of the catalogue.
use Rattle.std.proofs.Common.{◌≡◌, ◌<◌, ◌+◌, arith, length, length-append, Bool, true, false, cond, List, [], ◌∷◌, ◌++◌, map, find, Option, Some, None, Result, Ok, Err, refl, sym, subst, ap, ◌∙◌}
use Rattle.std.proofs.lemmas.Slice.Eq.{bytes_eq-Decides}
use Rattle.std.specs.Str.{bytes_eq}
use Rattle.value.specs.declared.refusal.Refusal.TheVariants as r
use Rattle.row_ast.specs.Ast as ast
use Rattle.value.specs.Names.{Name}
use Rattle.row_objects.specs.Objects.{Table}
use Rattle.catalog.specs.Catalog.{Catalog, table_named}
use Rattle.scope.specs.declared.error.BindError.{BindError}
use Rattle.expr.specs.declared.query.OutputKey.{OutputKey}
use Rattle.scope.specs.Entry.{Entry, fault}
use Rattle.memory.specs.Results.{and_then, first_then, on_each}
use Rattle.memory.proofs.Cases.{ok_is}
use Rattle.scope.proofs.Found.{first_given}
use Rattle.expr.specs.BoundQuery.{BoundQuery}
use Rattle.resolve.specs.Entries.{JoinedTable, alias_of, entries, entries_in, entry_in, found_entry, is_used, item_tables, joined, last_first, left_table, tables_of}
use Rattle.typing.specs.Clauses.{clause_error}
use Rattle.resolve.specs.BoundQueries.{bound_query}
use Rattle.resolve.specs.OrderBy.{output_key}
use Rattle.resolve.specs.Resolved.{Bound, bound, bound_checked, bound_with, checked, left_fault, lefts_checked, ordered, unless_fault, with_order}
use Rattle.resolve.specs.EntryTables.{AreTables, BindsTables}

-- what is given at the end was given on the way
module _ {X Y E : Type 0} (f : X → Result Y E) (y : Y) where
  pub given : (r : Result X E) → and_then r f ≡ Ok y → (x : X) × (r ≡ Ok x) × (f x ≡ Ok y)
  given (Ok x) e = (x, refl, e)
  given (Err x) e = absurd (cc)

-- what is found passes the test
found_passes : {X : Type 0} (p : X → Bool) (xs : List X) (x : X) → find p xs ≡ Some x → p x ≡ true
found_passes p [] x e = absurd (cc)
found_passes p (y ∷ ys) x e = go (p y) refl e (found_passes p ys x)
  where
    go : (b : Bool) → p y ≡ b → cond b (Some y) (find p ys) ≡ Some x → (find p ys ≡ Some x → p x ≡ true) → p x ≡ true
    go true is e more = let same : y ≡ x = cc in ap p (sym same) ∙ is
    go false is e more = more e

module _ (cat : Catalog) where
  by_own_name : (name : Name) (t : Table) → table_named name cat ≡ Some t → table_named t.name cat ≡ Some t
  by_own_name name t e =
      let same : name ≡ t.name = (bytes_eq-Decides name t.name).0 (found_passes (λ t. bytes_eq name t.name) cat.tables t e) in
      subst (λ n. table_named n cat ≡ Some t) same e

  of_found : (before : List Entry) (j : JoinedTable) (e : Entry) (o : Option Table) → table_named j.table.table cat ≡ o → found_entry before j o ≡ Ok e → table_named e.table.name cat ≡ Some e.table
  of_found before j e None is h = absurd (cc)
  of_found before j e (Some t) is h = go (is_used (alias_of j.table) before) h
    where
      go : (b : Bool) → cond b (Err (fault r.DuplicateAlias j.table.offset)) (Ok record { table = t; alias = alias_of j.table; first = j.first; on = j.on }) ≡ Ok e → table_named e.table.name cat ≡ Some e.table
      go true h = absurd (cc)
      go false h = let same : t ≡ e.table = cc in subst (λ (t : Table). table_named t.name cat ≡ Some t) same (by_own_name j.table.table t is)

  all_found : (before : List Entry) (js : List JoinedTable) (es : List Entry) → entries_in cat before js ≡ Ok es → AreTables cat es
  all_found before [] es e = let same : [] ≡ es = ok_is [] es e in subst (AreTables cat) same tt
  all_found before (j ∷ more) es e =
      let step = given (λ e. first_then (Ok e) (entries_in cat (before ++ e ∷ []) more)) es (entry_in cat before j) e in
      let rest = first_given (Ok step.0) (entries_in cat (before ++ step.0 ∷ []) more) es step.2 in
      let same : step.0 ∷ rest.1 ≡ es = ap (λ e. e ∷ rest.1) (ok_is step.0 rest.0 rest.2) ∙ rest.4 in
      subst (AreTables cat) same (of_found before j step.0 _ refl step.1, all_found (before ++ step.0 ∷ []) more rest.1 rest.3)

  -- ---- an entry for each table

  entry_count : (before : List Entry) (js : List JoinedTable) (es : List Entry) → entries_in cat before js ≡ Ok es → length es ≡ length js
  entry_count before [] es e = sym (ap length (ok_is [] es e))
  entry_count before (j ∷ more) es e =
      let step = given (λ e. first_then (Ok e) (entries_in cat (before ++ e ∷ []) more)) es (entry_in cat before j) e in
      let rest = first_given (Ok step.0) (entries_in cat (before ++ step.0 ∷ []) more) es step.2 in
      let n = entry_count (before ++ step.0 ∷ []) more rest.1 rest.3 in
      let m = ap length rest.4 in
      omega arith

pub some_joined : (from : List ast.FromItem) → 0 < length from → 0 < length (joined 0 from)
some_joined [] h = absurd (omega arith)
some_joined (f ∷ more) h = let n = length-append (item_tables 0 f) (joined (0 + length (item_tables 0 f)) more) in omega arith

-- binding keeps the entries
of_keys : (es : List Entry) (q : BoundQuery) (b : Bound) (keys : List OutputKey) → ◌≡◌ {A = Result Bound BindError} (Ok record { entries = es; query = with_order q keys }) (Ok b) → es ≡ b.entries
of_keys es q b keys e = cc

-- what passes a check is kept
unless_given : {X : Type 0} (fault : Option BindError) (x y : X) → ◌≡◌ {A = Result X BindError} (unless_fault fault x) (Ok y) → (fault ≡ None) × (x ≡ y)
unless_given None x y e = (refl, ok_is x y e)
unless_given (Some f) x y e = absurd (cc)

-- the left joins of a query that is bound have no error
pub lefts_pass : (q : ast.Query) (es : List Entry) (b : Bound) → bound_with q es ≡ Ok b → (bound_checked q es ≡ Ok b) × (left_fault b.query ≡ None)
lefts_pass q es b e =
    let found = given lefts_checked b (bound_checked q es) e in
    let passes = unless_given (left_fault found.0.query) found.0 b found.2 in
    (found.1 ∙ ap Ok passes.1, ap (λ x. left_fault x.query) (sym passes.1) ∙ passes.0)

pub same_entries : (es : List Entry) (q : ast.Query) (b : Bound) → bound_with q es ≡ Ok b → es ≡ b.entries
same_entries es q b e =
    let columns = given (checked es q) b (bound_query es q) (lefts_pass q es b e).0 in
    let types = given (ordered es q) b (unless_fault (clause_error es columns.0.group_by q) columns.0) columns.2 in
    let keys = given (λ keys. Ok record { entries = es; query = with_order types.0 keys }) b (on_each (output_key types.0.items) q.order_by) types.2 in
    of_keys es types.0 b keys.0 keys.2

pub binds_tables : BindsTables
binds_tables cat q b e =
    let found = given (bound_with q) b (entries cat q) e in
    subst (AreTables cat) (same_entries found.0 q b found.2) (all_found cat [] (tables_of q) found.0 found.1)

-- an entry for each table of FROM
pub as_many_entries : (cat : Catalog) (q : ast.Query) (b : Bound) → bound cat q ≡ Ok b → length b.entries ≡ length (tables_of q)
as_many_entries cat q b e =
    let found = given (bound_with q) b (entries cat q) e in
    let n = entry_count cat [] (tables_of q) found.0 found.1 in
    let same = ap length (same_entries found.0 q b found.2) in
    omega arith

-- a query with a table in FROM has an entry
pub some_entries : (cat : Catalog) (q : ast.Query) (b : Bound) → 0 < length q.from → bound cat q ≡ Ok b → 0 < length b.entries
some_entries cat q b some e =
    let n = as_many_entries cat q b e in
    let m = some_joined q.from some in
    let l = length-append (joined 0 q.from) (map (left_table (last_first 0 q.from)) q.lefts) in
    omega arith
