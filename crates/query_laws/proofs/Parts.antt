-- The parts that an admitted query is bound of, and that its checks found nothing and nothing is denied.
use Rattle.std.proofs.Common.{◌≡◌, ℕ, Bool, List, [], length, Option, Some, None, Result, Ok, Err, refl, ap, subst}
use Rattle.row_ast.specs.Ast as ast
use Rattle.memory.specs.Results.{on_each}
use Rattle.memory.proofs.Cases.{ok_is}
use Rattle.value.specs.Names.{Name}
use Rattle.expr.specs.declared.bound.ColumnId.{ColumnId}
use Rattle.expr.specs.declared.query.OutputKey.{OutputKey}
use Rattle.expr.specs.Bound.{BoundExpr}
use Rattle.expr.specs.BoundQuery.{BoundItem, BoundQuery}
use Rattle.scope.specs.declared.error.BindError.{BindError}
use Rattle.scope.specs.Entry.{Entry}
use Rattle.scope.specs.Lookup.{everywhere, find_column}
use Rattle.typing.specs.Clauses.{clause_error, is_grouped}
use Rattle.catalog_laws.specs.Catalog.{Catalog}
use Rattle.analysis.specs.BoundQueries.{bound_condition, bound_ons, bound_parts, bound_query, bound_select}
use Rattle.analysis.specs.Entries.{entries}
use Rattle.analysis.specs.OrderBy.{output_key}
use Rattle.analysis.specs.Resolved.{Bound, bound, bound_checked, bound_with, checked, left_fault, lefts_checked, ordered, unless_fault, with_order}
use Rattle.analysis.proofs.EntryTables.{given}
use Rattle.analysis.specs.Access.{RequiredPrivilege, denial}
use Rattle.analysis.specs.Needed.{needed}
use Rattle.analysis.specs.Analysis.{admitted, admitted_query, permitted, query_read, unless_denied}
use Rattle.analysis.proofs.Admitted.{not_denied}

-- ---- the parts

pub record HasParts (es : List Entry) (q : ast.Query) (b : BoundQuery) : Type 0 where
  pub items : bound_select es (everywhere es) q.select ≡ Ok b.items
  pub ons : bound_ons es 0 es ≡ Ok b.ons
  pub lefts : length q.lefts ≡ b.left_count
  pub filter : bound_condition es (everywhere es) q.filter ≡ Ok b.filter
  pub group_by : on_each (find_column es (everywhere es)) q.group_by ≡ Ok b.group_by
  pub having : bound_condition es (everywhere es) q.having ≡ Ok b.having
  pub grouped : is_grouped es q ≡ b.is_grouped

has_parts : (es : List Entry) (q : ast.Query) (grouped : Bool) (left_count : ℕ) (limit : Option ℕ) (items : Result (List BoundItem) BindError) (ons : Result (List (Option BoundExpr)) BindError)
    (filter : Result (Option BoundExpr) BindError) (group_by : Result (List ColumnId) BindError) (having : Result (Option BoundExpr) BindError) (b : BoundQuery)
    → bound_select es (everywhere es) q.select ≡ items → bound_ons es 0 es ≡ ons → bound_condition es (everywhere es) q.filter ≡ filter
    → on_each (find_column es (everywhere es)) q.group_by ≡ group_by → bound_condition es (everywhere es) q.having ≡ having → is_grouped es q ≡ grouped → length q.lefts ≡ left_count
    → bound_parts grouped left_count limit items ons filter group_by having ≡ Ok b → HasParts es q b
has_parts es q grouped left_count limit (Err fault) ons filter group_by having b i o f g h d l e = absurd (cc)
has_parts es q grouped left_count limit (Ok items) (Err fault) filter group_by having b i o f g h d l e = absurd (cc)
has_parts es q grouped left_count limit (Ok items) (Ok ons) (Err fault) group_by having b i o f g h d l e = absurd (cc)
has_parts es q grouped left_count limit (Ok items) (Ok ons) (Ok filter) (Err fault) having b i o f g h d l e = absurd (cc)
has_parts es q grouped left_count limit (Ok items) (Ok ons) (Ok filter) (Ok group_by) (Err fault) b i o f g h d l e = absurd (cc)
has_parts es q grouped left_count limit (Ok items) (Ok ons) (Ok filter) (Ok group_by) (Ok having) b i o f g h d l e =
    subst (HasParts es q) (ok_is (record { items = items; ons = ons; left_count = left_count; filter = filter; group_by = group_by; having = having; is_grouped = grouped; order_by = []; limit = limit }) b e)
    (record { items = i; ons = o; lefts = l; filter = f; group_by = g; having = h; grouped = d })

-- the keys of ORDER BY are no part of it
in_order : (es : List Entry) (q : ast.Query) (b : BoundQuery) (keys : List OutputKey) → HasParts es q b → HasParts es q (with_order b keys)
in_order es q b keys h = record { items = h.items; ons = h.ons; lefts = h.lefts; filter = h.filter; group_by = h.group_by; having = h.having; grouped = h.grouped }

-- ---- the checks

no_fault : {X E : Type 0} (o : Option E) (x y : X) → unless_fault o x ≡ Ok y → (o ≡ None) × (x ≡ y)
no_fault None x y e = (refl, ok_is x y e)
no_fault (Some fault) x y e = absurd (cc)

-- the parts, and no fault of aggregates, of types or of left joins
pub record IsMade (q : ast.Query) (b : Bound) : Type 0 where
  pub parts : HasParts b.entries q b.query
  pub right : clause_error b.entries b.query.group_by q ≡ None
  pub lefts : left_fault b.query ≡ None

abbrev IsChecked : ast.Query → Bound → Type 0
IsChecked q b = HasParts b.entries q b.query × (clause_error b.entries b.query.group_by q ≡ None)

is_checked : (es : List Entry) (q : ast.Query) (b : Bound) → bound_checked q es ≡ Ok b → IsChecked q b
is_checked es q b e =
    let columns = given (checked es q) b (bound_query es q) e in
    let types = given (ordered es q) b (unless_fault (clause_error es columns.0.group_by q) columns.0) columns.2 in
    let keys = given (λ keys. Ok record { entries = es; query = with_order types.0 keys }) b (on_each (output_key types.0.items) q.order_by) types.2 in
    let checks = no_fault (clause_error es columns.0.group_by q) columns.0 types.0 types.1 in
    let parts = has_parts es q _ _ _ _ _ _ _ _ columns.0 refl refl refl refl refl refl refl columns.1 in
    subst (IsChecked q) (ok_is (record { entries = es; query = with_order types.0 keys.0 }) b keys.2)
    (in_order es q types.0 keys.0 (subst (HasParts es q) checks.1 parts), subst (λ (c : BoundQuery). clause_error es c.group_by q ≡ None) checks.1 checks.0)

pub is_made : (cat : Catalog) (q : ast.Query) (b : Bound) → bound cat q ≡ Ok b → IsMade q b
is_made cat q b e =
    let found = given (bound_with q) b (entries cat q) e in
    let before = given lefts_checked b (bound_checked q found.0) found.2 in
    let lefts = no_fault (left_fault before.0.query) before.0 b before.2 in
    let checks = is_checked found.0 q before.0 before.1 in
    subst (IsMade q) lefts.1 (record { parts = checks.0; right = checks.1; lefts = lefts.0 })

-- ---- an admitted query

nothing_denied : (b c : Bound) (o : Option RequiredPrivilege) → unless_denied b o ≡ Ok c → o ≡ None
nothing_denied b c None e = refl
nothing_denied b c (Some privilege) e = absurd (cc)

abbrev Granted : Catalog → Name → Bound → Type 0
Granted cat role b = denial cat role (needed b.entries b.query) ≡ None

pub permitted_bound : (cat : Catalog) (role : Name) (r : Result Bound BindError) (b : Bound) → permitted cat role r ≡ Ok b → (r ≡ Ok b) × Granted cat role b
permitted_bound cat role (Err fault) b e = absurd (cc)
permitted_bound cat role (Ok c) b e =
    let lacking = denial cat role (needed c.entries c.query) in
    let same = not_denied c b lacking e in
    (ap (λ c. Ok c) same, subst (Granted cat role) same (nothing_denied c b lacking e))

-- it is bound of a query, and none of the privileges that it needs is lacking
pub admitted_bound : (cat : Catalog) (role : Name) (text : List ℕ) (b : Bound) → admitted cat role text ≡ Ok b
    → (q : ast.Query) × (bound cat q ≡ Ok b) × (denial cat role (needed b.entries b.query) ≡ None)
admitted_bound cat role text b e =
    let read = given (admitted_query cat role) b (query_read cat role text) e in
    let it = permitted_bound cat role (bound cat read.0) b read.2 in
    (read.0, it.0, it.1)
