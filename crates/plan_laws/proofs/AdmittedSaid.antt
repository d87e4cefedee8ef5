-- The movable conjuncts of an admitted query have texts that are read back, and its entries have names.
use Rattle.std.specs.Prelude.{option_to_list}
use Rattle.std.proofs.Common.{◌≡◌, ◌-◌, ℕ, zero, suc, Bool, true, false, cond, List, [], ◌∷◌, drop, filter, length, find, Option, Some, Result, Ok, Err, sym, ap, subst}
use Rattle.std.specs.List.{All, flat_map, slice_get}
use Rattle.std.specs.Str.{IsUtf8, bytes_eq}
use Rattle.std.proofs.lemmas.List.Elements.{All-append, All-cons, All-drop, All-head, All-nil, All-tail, All-take}
use Rattle.memory.proofs.Cases.{none_is_not, some_is}
use Rattle.value.specs.Columns.{Column}
use Rattle.value.specs.Names.{Name}
use Rattle.row_ast.specs.Ast as ast
use Rattle.row_objects.specs.Objects.{Table}
use Rattle.expr.specs.declared.bound.ColumnId.{ColumnId}
use Rattle.expr.specs.Bound.{BoundExpr}
use Rattle.expr.specs.Conjuncts.{conjuncts, conjuncts_in, inner_ons, left_ons, movable_conjuncts}
use Rattle.expr.specs.Movable.{movable}
use Rattle.row_terms.specs.Written.{left_conditions}
use Rattle.syntax.specs.Parsing.{parsed_query}
use Rattle.syntax.proofs.TextAnswer.{query_determined}
use Rattle.scope.specs.declared.error.BindError.{BindError}
use Rattle.scope.specs.declared.lookup.Scope.{Scope}
use Rattle.scope.specs.Entry.{Entry}
use Rattle.scope.specs.Lookup.{everywhere, find_column}
use Rattle.catalog.specs.Catalog.{Catalog, is_role}
use Rattle.catalog_laws.specs.WellFormed.{IsWellFormed}
use Rattle.resolve.specs.EntryTables.{AreTables}
use Rattle.resolve.specs.Resolved.{Bound, bound}
use Rattle.resolve.proofs.EntryTables.{binds_tables, given}
use Rattle.access.specs.Access.{denial}
use Rattle.access.specs.Needed.{needed}
use Rattle.analysis.specs.Analysis.{admitted, admitted_query, permitted, query_read}
use Rattle.analysis.proofs.Admitted.{not_denied, was_parsed}
use Rattle.query_laws.proofs.Found.{found_there}
use Rattle.query_laws.proofs.Parts.{is_made}
use Rattle.expr_texts.specs.Filters.{IsName, IsNamed}
use Rattle.bound_plans.specs.Named.{alias_of_entry, column_name, name_of, name_of_column}
use Rattle.plan_laws.specs.Names.{AreNames}
use Rattle.plan_laws.proofs.Rules.{Each, If}
use Rattle.plan_laws.specs.Said.{IsSaid}
use Rattle.plan_laws.proofs.GrownQueries.{IsGrownCondition, IsGrownQuery, queries_grown}
use Rattle.plan_laws.proofs.GrownEntries.{IsGrownEntry, query_entries}
use Rattle.plan_laws.proofs.BoundConditions.{IsSaidIfMovable, condition_said, each_of, movable_said, ons_said, whole_ons_said}
use Rattle.plan_laws.proofs.PlanningSaid.{all_said_without}

-- ---- lists

each_all : {X : Type 0} (P : X → Type 0) (xs : List X) → Each P xs → All P xs
each_all P [] h = All-nil P
each_all P (x ∷ xs) h = All-cons P x xs h.0 (each_all P xs h.1)

each_weaker : {X : Type 0} (P Q : X → Type 0) → ((x : X) → P x → Q x) → (xs : List X) → Each P xs → Each Q xs
each_weaker P Q f [] h = tt
each_weaker P Q f (x ∷ xs) h = (f x h.0, each_weaker P Q f xs h.1)

at_index : {X : Type 0} (P : X → Type 0) (xs : List X) (i : ℕ) (x : X) → All P xs → slice_get xs i ≡ Some x → P x
at_index P [] i x h e = absurd (none_is_not x e)
at_index P (y ∷ ys) zero x h e = subst P (some_is y x e) (All-head P y ys h)
at_index P (y ∷ ys) (suc i) x h e = at_index P ys i x (All-tail P y ys h) e

-- what holds of each holds of what is found
of_found : {X : Type 0} (P : X → Type 0) (p : X → Bool) (xs : List X) (x : X) → All P xs → find p xs ≡ Some x → P x
of_found P p [] x h e = absurd (none_is_not x e)
of_found {X} P p (y ∷ ys) x h e = go (p y) (of_found P p ys x (All-tail P y ys h)) e
  where
    go : (b : Bool) → (find p ys ≡ Some x → P x) → cond b (Some y) (find p ys) ≡ Some x → P x
    go true more e = subst P (some_is y x e) (All-head P y ys h)
    go false more e = more e

-- ---- columns

-- the columns of the table have names of the grammar
abbrev HasNames : Table → Type 0
HasNames t = All (λ (c : Column). IsName c.name) t.columns

abbrev EntryHasNames : Entry → Type 0
EntryHasNames e = HasNames e.table

entries_named : (cat : Catalog) (es : List Entry) → AreNames cat → AreTables cat es → All EntryHasNames es
entries_named cat [] names are = All-nil EntryHasNames
entries_named cat (e ∷ es) names are =
    All-cons EntryHasNames e es (of_found HasNames (λ (t : Table). bytes_eq e.table.name t.name) cat.tables e.table names are.0) (entries_named cat es names are.1)

abbrev HasAlias : Entry → Type 0
HasAlias e = IsName e.alias

-- a column that is found has such a name, qualified by the alias of its entry
column_named : (es : List Entry) → All HasAlias es → All EntryHasNames es → (scope : Scope) (c : ast.ColumnRef) (id : ColumnId)
    → find_column es scope c ≡ Ok id → IsNamed (name_of es id).table (name_of es id).name
column_named es aliases names scope c id is =
    let there = found_there es scope c id is in
    let its_name : IsName there.column.name = at_index (λ (c : Column). IsName c.name) there.entry.table.columns id.column there.column (at_index EntryHasNames es id.entry there.entry names there.entry_is) there.column_is in (
      subst (λ o. IsName (alias_of_entry o)) (sym there.entry_is) (at_index HasAlias es id.entry there.entry aliases there.entry_is),
      subst (λ o. IsName (column_name o id.column)) (sym there.entry_is) (subst (λ o. IsName (name_of_column o)) (sym there.column_is) its_name),
    )

-- ---- the query

was_bound : (cat : Catalog) (role : Name) (r : Result Bound BindError) (b : Bound) → permitted cat role r ≡ Ok b → r ≡ Ok b
was_bound cat role (Err fault) b e = absurd (cc)
was_bound cat role (Ok c) b e = ap Ok (not_denied c b (denial cat role (needed c.entries c.query)) e)

read_and_bound : (cat : Catalog) (role : Name) (text : List ℕ) (b : Bound) → admitted cat role text ≡ Ok b → (q : ast.Query) × (parsed_query text ≡ Ok q) × (bound cat q ≡ Ok b)
read_and_bound cat role text b e =
    let read = given (admitted_query cat role) b (query_read cat role text) e in
    (read.0, was_parsed (is_role cat role) (parsed_query text) _ read.0 read.1, was_bound cat role (bound cat read.0) b read.2)

grown : (text : List ℕ) (q : ast.Query) → IsUtf8 text → parsed_query text ≡ Ok q → IsGrownQuery q
grown text q u is = queries_grown text q u (query_determined.found text q is).0

-- the condition of its ON
abbrev HasOn : Entry → Type 0
HasOn e = If IsGrownCondition e.on

aliases_of : (es : List Entry) → Each IsGrownEntry es → All HasAlias es
aliases_of es h = each_all HasAlias es (each_weaker IsGrownEntry HasAlias (λ e g. g.alias) es h)

pub admitted_aliases : (cat : Catalog) (role : Name) (text : List ℕ) (b : Bound) → IsWellFormed cat → AreNames cat → IsUtf8 text → admitted cat role text ≡ Ok b → All (λ e. IsName e.alias) b.entries
admitted_aliases cat role text b fit names u is =
    let it = read_and_bound cat role text b is in
    aliases_of b.entries (query_entries cat it.0 b (grown text it.0 u it.1) it.2)

pub admitted_said : (cat : Catalog) (role : Name) (text : List ℕ) (b : Bound) → IsWellFormed cat → AreNames cat → IsUtf8 text → admitted cat role text ≡ Ok b → All (IsSaid b.entries) (movable_conjuncts b.query)
admitted_said cat role text b fit names u is =
    let it = read_and_bound cat role text b is in
    let q = it.0 in
    let es = b.entries in
    let g = grown text q u it.1 in
    let parts = (is_made cat q b it.2).parts in
    let here = query_entries cat q b g it.2 in
    let found = column_named es (aliases_of es here) (entries_named cat es names (binds_tables cat q b it.2)) in
    let ons = ons_said es found 0 es b.query.ons (each_weaker IsGrownEntry HasOn (λ e k. k.on) es here) parts.ons in
    let inner = All-take (λ (o : Option BoundExpr). All (IsSaidIfMovable es) (conjuncts_in o)) (length b.query.ons - b.query.left_count) b.query.ons ons in
    let where_ = condition_said es found (everywhere es) q.filter b.query.filter g.filter parts.filter in
    movable_said es (conjuncts b.query) (All-append (IsSaidIfMovable es) (flat_map conjuncts_in (inner_ons b.query)) (conjuncts_in b.query.filter) (each_of es conjuncts_in (inner_ons b.query) inner) where_)

-- and so do the ONs of its left joined entries
pub admitted_lefts_said : (cat : Catalog) (role : Name) (text : List ℕ) (b : Bound) → IsWellFormed cat → AreNames cat → IsUtf8 text → admitted cat role text ≡ Ok b → All (IsSaid b.entries) (left_conditions b.query)
admitted_lefts_said cat role text b fit names u is =
    let it = read_and_bound cat role text b is in
    let q = it.0 in
    let es = b.entries in
    let g = grown text q u it.1 in
    let parts = (is_made cat q b it.2).parts in
    let here = query_entries cat q b g it.2 in
    let found = column_named es (aliases_of es here) (entries_named cat es names (binds_tables cat q b it.2)) in
    let ons = whole_ons_said es found 0 es b.query.ons (each_weaker IsGrownEntry HasOn (λ e k. k.on) es here) parts.ons in
    let n = length b.query.ons - b.query.left_count in
    let lefts = All-drop (λ (o : Option BoundExpr). All (IsSaidIfMovable es) (option_to_list o)) n b.query.ons ons in
    all_said_without es (filter movable (left_ons b.query)) (movable_said es (left_ons b.query) (each_of es option_to_list (drop n b.query.ons) lefts))
