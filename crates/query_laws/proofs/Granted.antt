-- Each column that an admitted query names is there and granted, and some part of each of its tables.
use Rattle.std.proofs.Common.{◌≡◌, ◌⊎◌, inl, inr, ℕ, ◌+◌, Bool, true, false, not, ◌&&◌, ◌||◌, cond, List, [], ◌∷◌, ◌++◌, length, Contains, Option, Some, None, Ok, refl, sym, ap, subst, ◌∙◌, arith}
use Rattle.std.specs.Prelude.{slice_index_or}
use Rattle.std.proofs.lemmas.Option.{slice_get-get_or}
use Rattle.std.specs.List.{All, Any, cons_option, filter_map, flat_map, list_any, slice_get}
use Rattle.std.proofs.lemmas.List.Elements.{All-append, All-cons, All-contains, All-filter, All-head, All-nil, All-tail}
use Rattle.value.specs.Names.{Name}
use Rattle.row_ast.specs.Ast as ast
use Rattle.row_objects.specs.Grants.{Grant}
use Rattle.row_objects.specs.Objects.{Table}
use Rattle.expr.specs.declared.bound.ColumnId.{ColumnId}
use Rattle.expr.specs.Bound.{BoundExpr}
use Rattle.expr.specs.BoundQuery.{BoundQuery}
use Rattle.expr.specs.NamedColumns.{condition_columns, item_columns, named_columns}
use Rattle.scope.specs.Entry.{Entry}
use Rattle.scope.specs.Lookup.{everywhere, on_scope}
use Rattle.catalog_laws.specs.Catalog.{Catalog, owns}
use Rattle.analysis.specs.Access.{RequiredPrivilege, covers, denial, granted, includes_role, select_on}
use Rattle.analysis.specs.Needed.{needed, select_any}
use Rattle.analysis.specs.NamedLaws.{is_on_column, on_named}
use Rattle.analysis.proofs.NamedEntries.{entries_are_needed}
use Rattle.analysis.proofs.NamedMentions.{named_are_needed}
use Rattle.analysis.specs.BoundQueries.{bound_condition, bound_ons}
use Rattle.analysis.specs.Resolved.{Bound}
use Rattle.scope.proofs.Found.{first_given}
use Rattle.memory.proofs.Cases.{ok_is, some_is}
use Rattle.query_laws.specs.Admitted.{IsGranted, NamedAreGranted, TablesAreGranted}
use Rattle.query_laws.proofs.Found.{IsThere, columns_there, condition_there, of_each, ons_there, select_there}
use Rattle.query_laws.proofs.Parts.{HasParts, IsMade, admitted_bound, is_made}

-- ---- a grant on a column is one on some part

either_holds : (a b c d : Bool) → (a ≡ true → b ≡ true) → (c ≡ true → d ≡ true) → (a || c) ≡ true → (b || d) ≡ true
either_holds true true c d h k e = refl
either_holds true false c d h k e = absurd (let no : false ≡ true = h refl in cc)
either_holds false true c d h k e = refl
either_holds false false c d h k e = k e

covers_any : (g name : Option Name) → covers g name ≡ true → covers g None ≡ true
covers_any None name h = refl
covers_any (Some column) name h = refl

both_hold : (a b c : Bool) → (b ≡ true → c ≡ true) → (a && b) ≡ true → (a && c) ≡ true
both_hold true b c h e = h e
both_hold false b c h e = e

any_grant : (cat : Catalog) (role : Name) (name : Option Name) (gs : List Grant)
    → list_any (λ g. includes_role cat role g.to && covers g.column name) gs ≡ true → list_any (λ g. includes_role cat role g.to && covers g.column None) gs ≡ true
any_grant cat role name [] h = h
any_grant cat role name (g ∷ gs) h =
    either_holds (includes_role cat role g.to && covers g.column name) (includes_role cat role g.to && covers g.column None) (list_any (λ g. includes_role cat role g.to && covers g.column name) gs) (list_any (λ g. includes_role cat role g.to && covers g.column None) gs)
    (both_hold (includes_role cat role g.to) (covers g.column name) (covers g.column None) (covers_any g.column name)) (any_grant cat role name gs) h

pub part_granted : (cat : Catalog) (role : Name) (t : Table) (name : Name) → granted cat role (select_on t name) ≡ true → granted cat role (select_any t) ≡ true
part_granted cat role t name h =
    either_holds (owns cat role t) (owns cat role t) (list_any (λ g. includes_role cat role g.to && covers g.column (Some name)) t.grants) (list_any (λ g. includes_role cat role g.to && covers g.column None) t.grants) (λ e. e) (any_grant cat role (Some name) t.grants) h

-- ---- nothing that is needed is lacking

module _ (cat : Catalog) (role : Name) where
  abbrev IsHeld : RequiredPrivilege → Type 0
  IsHeld p = granted cat role p ≡ true

  all_held : (ps : List RequiredPrivilege) → denial cat role ps ≡ None → All IsHeld ps
  all_held [] h = All-nil IsHeld
  all_held (p ∷ ps) h = go (granted cat role p) refl (all_held ps) h
    where
      go : (b : Bool) → granted cat role p ≡ b → (denial cat role ps ≡ None → All IsHeld ps) → cond (not b) (Some p) (denial cat role ps) ≡ None → All IsHeld (p ∷ ps)
      go true is rest e = All-cons IsHeld p ps is (rest e)
      go false is rest e = absurd (cc)

  -- ---- columns

  module _ (es : List Entry) where
    column_held : (id : ColumnId) (there : IsThere es id) → (o : Option RequiredPrivilege) → on_named es id ≡ o → All IsHeld (cons_option o []) → IsGranted cat role es id
    column_held id there o is h =
        let named : on_named es id ≡ Some (select_on there.entry.table there.column.name) = rw (there.entry_is, there.column_is) refl in
        let held : All IsHeld (select_on there.entry.table there.column.name ∷ []) = subst (λ (o : Option RequiredPrivilege). All IsHeld (cons_option o [])) (sym is ∙ named) h in
        record { entry = there.entry; column = there.column; entry_is = there.entry_is; column_is = there.column_is; is_granted = All-head IsHeld _ [] held }

    first_of : (o : Option RequiredPrivilege) (ps : List RequiredPrivilege) → All IsHeld (cons_option o ps) → All IsHeld (cons_option o []) × All IsHeld ps
    first_of None ps h = (All-nil IsHeld, h)
    first_of (Some p) ps h = (All-cons IsHeld p [] (All-head IsHeld p ps h) (All-nil IsHeld), All-tail IsHeld p ps h)

    columns_held : (ids : List ColumnId) → All (IsThere es) ids → All IsHeld (filter_map (on_named es) ids) → All (IsGranted cat role es) ids
    columns_held [] there h = All-nil (IsGranted cat role es)
    columns_held (id ∷ ids) there h =
        let parts = first_of (on_named es id) (filter_map (on_named es) ids) h in
        All-cons (IsGranted cat role es) id ids (column_held id (All-head (IsThere es) id ids there) (on_named es id) refl parts.0) (columns_held ids (All-tail (IsThere es) id ids there) parts.1)

  -- ---- entries

  module _ (es : List Entry) where
    entry_held : (k : ℕ) (e : Entry) (ids : List ColumnId) (ps : List RequiredPrivilege) → slice_get es k ≡ Some e → All (IsGranted cat role es) ids → All IsHeld ps
        → Any (λ (id : ColumnId). id.entry ≡ k) ids ⊎ Contains ps (select_any e.table) → granted cat role (select_any e.table) ≡ true
    entry_held k e ids ps at named held (inl some) =
        let h : IsGranted cat role es some.1 = subst (IsGranted cat role es) some.3 (named some.0 some.1 some.2) in
        let same : h.entry ≡ e = some_is h.entry e (sym h.entry_is ∙ ap (slice_get es) some.4 ∙ at) in
        part_granted cat role e.table h.column.name (subst (λ (e : Entry). granted cat role (select_on e.table h.column.name) ≡ true) same h.is_granted)
    entry_held k e ids ps at named held (inr there) = All-contains IsHeld ps (select_any e.table) held there

-- ---- as many ONs as entries

as_many_ons : (es : List Entry) (n : ℕ) (more : List Entry) (ons : List (Option BoundExpr)) → bound_ons es n more ≡ Ok ons → length ons ≡ length more
as_many_ons es n [] ons e = sym (ap length (ok_is [] ons e))
as_many_ons es n (y ∷ more) ons e =
    let step = first_given (bound_condition es (on_scope n y) y.on) (bound_ons es (n + 1) more) ons e in
    let k = as_many_ons es (n + 1) more step.1 step.3 in
    let l = ap length step.4 in
    omega arith

-- ---- the columns of a query

named_there : (es : List Entry) (q : ast.Query) (b : BoundQuery) → HasParts es q b → All (IsThere es) (named_columns b)
named_there es q b parts =
    All-append (IsThere es) (flat_map item_columns b.items) _ (of_each (IsThere es) item_columns b.items (select_there es (everywhere es) q.select b.items parts.items))
    (All-append (IsThere es) (flat_map condition_columns b.ons ++ condition_columns b.filter) _
    (All-append (IsThere es) (flat_map condition_columns b.ons) _ (of_each (IsThere es) condition_columns b.ons (ons_there es 0 es b.ons parts.ons)) (condition_there es (everywhere es) q.filter b.filter parts.filter))
    (All-append (IsThere es) b.group_by _ (columns_there es (everywhere es) q.group_by b.group_by parts.group_by) (condition_there es (everywhere es) q.having b.having parts.having)))

-- ---- the laws

of_bound : (cat : Catalog) (role : Name) (q : ast.Query) (b : Bound) → IsMade q b → denial cat role (needed b.entries b.query) ≡ None → All (IsGranted cat role b.entries) (named_columns b.query)
of_bound cat role q b made none =
    let held = all_held cat role (needed b.entries b.query) none in
    let on_columns : All (IsHeld cat role) (filter_map (on_named b.entries) (named_columns b.query)) =
    subst (All (IsHeld cat role)) (named_are_needed b.entries b.query) (All-filter is_on_column (IsHeld cat role) (needed b.entries b.query) held) in
    columns_held cat role b.entries (named_columns b.query) (named_there b.entries q b.query made.parts) on_columns

pub named_are_granted : NamedAreGranted
named_are_granted cat role text b e =
    let it = admitted_bound cat role text b e in
    of_bound cat role it.0 b (is_made cat it.0 b it.1) it.2

pub tables_are_granted : TablesAreGranted
tables_are_granted cat role text b e = each
  where
    each : All (λ (e : Entry). granted cat role (select_any e.table) ≡ true) b.entries
    each k d l =
        let it = admitted_bound cat role text b e in
        let made = is_made cat it.0 b it.1 in
        let named = of_bound cat role it.0 b made it.2 in
        let held = all_held cat role (needed b.entries b.query) it.2 in
        let count = as_many_ons b.entries 0 b.entries b.query.ons made.parts.ons in
        let at : slice_get b.entries k ≡ Some (slice_index_or b.entries k d) = slice_get-get_or b.entries k d l in
        entry_held cat role b.entries k (slice_index_or b.entries k d) (named_columns b.query) (needed b.entries b.query) at named held
        (entries_are_needed b.entries b.query k (slice_index_or b.entries k d) (omega (arith, l, count)) at)
