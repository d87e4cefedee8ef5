-- A query within the limits has few conjuncts, and no more when it is bound.
use Rattle.std.proofs.Common.{◌≡◌, ℕ, ◌+◌, ◌≤◌, Bool, true, false, ◌&&◌, cond, List, [], ◌∷◌, ◌++◌, ◌-◌, length, length-append, map, take, drop, Option, Some, None, Result, Ok, Err, refl, sym, ap, subst, ◌∙◌, arith}
use Rattle.std.specs.Prelude.{option_to_list}
use Rattle.std.specs.List.{flat_map, sum, sum_by}
use Rattle.std.proofs.lemmas.Bool.{leb-true}
use Rattle.std.proofs.lemmas.List.{take-append-drop}
use Rattle.std.proofs.lemmas.List.Concat.{length-flat_map}
use Rattle.std.proofs.lemmas.List.Sums.{count_by-le-length, length-filter, sum-map, sum_by-append, sum_by-cons}
use Rattle.memory.specs.Results.{and_then, first_then, on_each}
use Rattle.memory.proofs.Cases.{ok_is}
use Rattle.value.specs.declared.refusal.Refusal.TheVariants as r
use Rattle.value.specs.Limits.{most_conjuncts}
use Rattle.value.specs.Names.{Name}
use Rattle.row_ast.specs.Ast as ast
use Rattle.expr.specs.declared.bound.ColumnId.{ColumnId}
use Rattle.expr.specs.Bound as bound
use Rattle.expr.specs.Bound.{BoundExpr, bound_arms_of, bound_exprs_of}
use Rattle.expr.specs.BoundQuery.{BoundItem, BoundQuery}
use Rattle.expr.specs.Conjuncts.{conjuncts, conjuncts_in, conjuncts_of, inner_ons, left_ons, members, movable_conjuncts}
use Rattle.expr.specs.Movable.{movable}
use Rattle.row_objects.specs.Objects.{Table}
use Rattle.scope.specs.declared.error.BindError.{BindError}
use Rattle.scope.specs.declared.lookup.Scope.{Scope}
use Rattle.scope.specs.Entry.{Entry, fault}
use Rattle.scope.specs.Lookup.{everywhere, find_column, on_scope}
use Rattle.scope.specs.BoundExprs.{bound_arms, bound_expr, bound_members, bound_otherwise}
use Rattle.syntax.specs.Limits as limits
use Rattle.syntax.specs.Limits.{filter_members, from_members, join_members, left_members, within_limits}
use Rattle.catalog.specs.Catalog.{Catalog}
use Rattle.resolve.specs.Entries.{JoinedTable, alias_of, entries, entries_in, entry_in, first_table, found_entry, is_used, item_tables, joined, joined_by, last_first, left_table, tables_of}
use Rattle.resolve.specs.BoundQueries.{bound_condition, bound_ons, bound_parts, bound_query}
use Rattle.resolve.specs.OrderBy.{output_key}
use Rattle.resolve.specs.Resolved.{Bound, bound, bound_checked, bound_with, checked, left_fault, lefts_checked, ordered, unless_fault, with_order}
use Rattle.scope.proofs.Found.{first_given}
use Rattle.resolve.proofs.EntryTables.{given}
use Rattle.analysis.specs.Analysis.{admitted_query, permitted}
use Rattle.analysis.proofs.Admitted.{not_denied}
use Rattle.engine.proofs.Few.{first_holds}

-- ---- an AND is bound as an AND of as many members, and any other expression as one that is no AND

abbrev IsOne : Result BoundExpr BindError → Type 0
IsOne r = (x : BoundExpr) → r ≡ Ok x → length (conjuncts_of x) ≡ 1

is_one : (y : BoundExpr) → length (conjuncts_of y) ≡ 1 → IsOne (Ok y)
is_one y one x e = subst (λ (y : BoundExpr). length (conjuncts_of y) ≡ 1) (ok_is y x e) one

one_after : {X : Type 0} (r : Result X BindError) (f : X → Result BoundExpr BindError) → ((y : X) → IsOne (f y)) → IsOne (and_then r f)
one_after r f one x e = let step = given f x r e in one step.0 x step.2

as_many : (xs : List BoundExpr) → length (members (bound_exprs_of xs)) ≡ length xs
as_many [] = refl
as_many (x ∷ xs) = let n = as_many xs in omega arith

module _ (es : List Entry) (scope : Scope) where
  members_bound : (ms : ast.Exprs) (xs : List BoundExpr) → bound_members es scope ms ≡ Ok xs → length xs ≡ length (ast.list_of ms)
  members_bound ast.no_expr xs e = sym (ap length (ok_is [] xs e))
  members_bound (ast.one_expr m ms) xs e =
      let step = first_given (bound_expr es scope m) (bound_members es scope ms) xs e in
      let n = members_bound ms step.1 step.3 in
      let k = ap length step.4 in
      omega arith

  and_bound : (offset : ℕ) (ms : ast.Exprs) (x : BoundExpr) → bound_expr es scope (ast.And offset ms) ≡ Ok x → length (conjuncts_of x) ≡ length (ast.list_of ms)
  and_bound offset ms x e =
      let step = given (λ xs. Ok (bound.And offset (bound_exprs_of xs))) x (bound_members es scope ms) e in
      let same = ap (λ x. length (conjuncts_of x)) (ok_is (bound.And offset (bound_exprs_of step.0)) x step.2) in
      let n = members_bound ms step.0 step.1 in
      let k = as_many step.0 in
      omega arith

  expr_bound : (e : ast.Expr) (x : BoundExpr) → bound_expr es scope e ≡ Ok x → length (conjuncts_of x) ≡ length (ast.and_members e)
  expr_bound (ast.Column c) = one_after (find_column es scope c) _ (λ id. is_one (bound.Column id) refl)
  expr_bound (ast.Literal d) = is_one (bound.Literal d) refl
  expr_bound ast.CurrentUser = is_one bound.CurrentUser refl
  expr_bound (ast.Negate n e) = one_after (bound_expr es scope e) _ (λ x. is_one (bound.Negate n x) refl)
  expr_bound (ast.Arithmetic op n e f) = one_after (bound_expr es scope e) _ (λ x. one_after (bound_expr es scope f) _ (λ y. is_one (bound.Arithmetic op n x y) refl))
  expr_bound (ast.Comparison op n e f) = one_after (bound_expr es scope e) _ (λ x. one_after (bound_expr es scope f) _ (λ y. is_one (bound.Comparison op n x y) refl))
  expr_bound (ast.Between negated n e low high) =
      one_after (bound_expr es scope e) _ (λ x. one_after (bound_expr es scope low) _ (λ y. one_after (bound_expr es scope high) _ (λ z. is_one (bound.Between negated n x y z) refl)))
  expr_bound (ast.In negated n values e) = one_after (bound_expr es scope e) _ (λ x. is_one (bound.In negated n values x) refl)
  expr_bound (ast.IsNull negated n e) = one_after (bound_expr es scope e) _ (λ x. is_one (bound.IsNull negated n x) refl)
  expr_bound (ast.Not n e) = one_after (bound_expr es scope e) _ (λ x. is_one (bound.Not n x) refl)
  expr_bound (ast.And n ms) = and_bound n ms
  expr_bound (ast.Or n ms) = one_after (bound_members es scope ms) _ (λ xs. is_one (bound.Or n (bound_exprs_of xs)) refl)
  expr_bound (ast.Cast n to e) = one_after (bound_expr es scope e) _ (λ x. is_one (bound.Cast n to x) refl)
  expr_bound (ast.Case n as_ o) = one_after (bound_arms es scope as_) _ (λ xs. one_after (bound_otherwise es scope o) _ (λ y. is_one (bound.Case n (bound_arms_of xs) y) refl))
  expr_bound (ast.CountStar n) = is_one (bound.CountStar n) refl
  expr_bound (ast.Call f n e) = one_after (bound_expr es scope e) _ (λ x. is_one (bound.Call f n x) refl)

  condition_bound : (o : Option ast.Condition) (x : Option BoundExpr) → bound_condition es scope o ≡ Ok x → length (conjuncts_in x) ≡ filter_members o
  condition_bound None x e = sym (ap (λ x. length (conjuncts_in x)) (ok_is None x e))
  condition_bound (Some c) x e =
      let step = given (λ y. Ok (Some y)) x (bound_expr es scope c.predicate) e in
      sym (ap (λ x. length (conjuncts_in x)) (ok_is (Some step.0) x step.2)) ∙ expr_bound c.predicate step.0 step.1

-- ---- the ONs of the entries

abbrev count_in : Option BoundExpr → ℕ
count_in x = length (conjuncts_in x)

abbrev entry_members : Entry → ℕ
entry_members e = filter_members e.on

ons_bound : (es : List Entry) (number : ℕ) (more : List Entry) (ons : List (Option BoundExpr)) → bound_ons es number more ≡ Ok ons → sum_by count_in ons ≡ sum_by entry_members more
ons_bound es number [] ons e = sym (ap (sum_by count_in) (ok_is [] ons e))
ons_bound es number (y ∷ more) ons e =
    let step = first_given (bound_condition es (on_scope number y) y.on) (bound_ons es (number + 1) more) ons e in
    let n = ons_bound es (number + 1) more step.1 step.3 in
    let k = ap (sum_by count_in) step.4 in
    let l = sum_by-cons count_in step.0 step.1 in
    let m = condition_bound es (on_scope number y) y.on step.0 step.2 in
    let s = sum_by-cons entry_members y more in
    omega arith

-- ---- the entries have the ONs of the tables of FROM

abbrev table_members : JoinedTable → ℕ
table_members j = filter_members j.on

keeps_on : (before : List Entry) (j : JoinedTable) (e : Entry) (o : Option Table) → found_entry before j o ≡ Ok e → j.on ≡ e.on
keeps_on before j e None h = absurd (cc)
keeps_on before j e (Some t) h = go (is_used (alias_of j.table) before) h
  where
    go : (b : Bool) → cond b (Err (fault r.DuplicateAlias j.table.offset)) (Ok record { table = t; alias = alias_of j.table; first = j.first; on = j.on }) ≡ Ok e → j.on ≡ e.on
    go true h = absurd (cc)
    go false h = cc

entries_found : (cat : Catalog) (before : List Entry) (js : List JoinedTable) (es : List Entry) → entries_in cat before js ≡ Ok es → sum_by entry_members es ≡ sum_by table_members js
entries_found cat before [] es e = sym (ap (sum_by entry_members) (ok_is [] es e))
entries_found cat before (j ∷ more) es e =
    let step = given (λ e. first_then (Ok e) (entries_in cat (before ++ e ∷ []) more)) es (entry_in cat before j) e in
    let rest = first_given (Ok step.0) (entries_in cat (before ++ step.0 ∷ []) more) es step.2 in
    let same : step.0 ∷ rest.1 ≡ es = ap (λ (e : Entry). e ∷ rest.1) (ok_is step.0 rest.0 rest.2) ∙ rest.4 in
    let n = entries_found cat (before ++ step.0 ∷ []) more rest.1 rest.3 in
    let k = ap (sum_by entry_members) same in
    let l = sum_by-cons entry_members step.0 rest.1 in
    let m = ap filter_members (keeps_on before j step.0 _ step.1) in
    let s = sum_by-cons table_members j more in
    omega arith

join_kept : (first : ℕ) (j : ast.Join) → table_members (joined_by first j) ≡ join_members j
join_kept first (ast.Inner table c) = refl
join_kept first (ast.Cross table) = refl

joins_kept : (first : ℕ) (js : List ast.Join) → sum_by table_members (map (joined_by first) js) ≡ sum_by join_members js
joins_kept first [] = refl
joins_kept first (j ∷ js) =
    let n = joins_kept first js in
    let m = join_kept first j in
    let k = sum_by-cons table_members (joined_by first j) (map (joined_by first) js) in
    let s = sum_by-cons join_members j js in
    omega arith

abbrev item_members : ast.FromItem → ℕ
item_members f = sum (map join_members f.joins)

items_joined : (first : ℕ) (from : List ast.FromItem) → sum_by table_members (joined first from) ≡ from_members from
items_joined first [] = refl
items_joined first (f ∷ more) =
    let here = item_tables first f in
    let rest = items_joined (first + length here) more in
    let s = sum_by-cons item_members f more in
    let t = sum-map item_members (f ∷ more) in
    let u = sum-map item_members more in
    let k = sum_by-append table_members here (joined (first + length here) more) in
    let l = sum_by-cons table_members (first_table first f.first) (map (joined_by first) f.joins) in
    let m = joins_kept first f.joins in
    let n = sum-map join_members f.joins in
    omega arith

lefts_joined : (first : ℕ) (ls : List ast.LeftJoin) → sum_by table_members (map (left_table first) ls) ≡ left_members ls
lefts_joined first [] = refl
lefts_joined first (l ∷ ls) =
    let n = lefts_joined first ls in
    let k = sum_by-cons table_members (left_table first l) (map (left_table first) ls) in
    let s = sum-map (λ l. limits.members l.on_) (l ∷ ls) in
    let t = sum_by-cons (λ l. limits.members l.on_) l ls in
    let u = sum-map (λ l. limits.members l.on_) ls in
    omega arith

tables_joined : (q : ast.Query) → sum_by table_members (tables_of q) ≡ limits.on_members q
tables_joined q =
    let n = items_joined 0 q.from in
    let m = lefts_joined (last_first 0 q.from) q.lefts in
    let k = sum_by-append table_members (joined 0 q.from) (map (left_table (last_first 0 q.from)) q.lefts) in
    omega arith

-- ---- the query

parts_kept : (grouped : Bool) (lefts : ℕ) (limit : Option ℕ) (items : Result (List BoundItem) BindError) (ons : Result (List (Option BoundExpr)) BindError)
    (filter : Result (Option BoundExpr) BindError) (group_by : Result (List ColumnId) BindError) (having : Result (Option BoundExpr) BindError) (b : BoundQuery)
    → bound_parts grouped lefts limit items ons filter group_by having ≡ Ok b → (ons ≡ Ok b.ons) × (filter ≡ Ok b.filter)
parts_kept grouped lefts limit (Err fault) ons filter group_by having b e = absurd (cc)
parts_kept grouped lefts limit (Ok items) (Err fault) filter group_by having b e = absurd (cc)
parts_kept grouped lefts limit (Ok items) (Ok ons) (Err fault) group_by having b e = absurd (cc)
parts_kept grouped lefts limit (Ok items) (Ok ons) (Ok filter) (Err fault) having b e = absurd (cc)
parts_kept grouped lefts limit (Ok items) (Ok ons) (Ok filter) (Ok group_by) (Err fault) b e = absurd (cc)
parts_kept grouped lefts limit (Ok items) (Ok ons) (Ok filter) (Ok group_by) (Ok having) b e =
    let same = ok_is (record { items = items; ons = ons; left_count = lefts; filter = filter; group_by = group_by; having = having; is_grouped = grouped; order_by = []; limit = limit }) b e in
    (ap (λ b. Ok b.ons) same, ap (λ b. Ok b.filter) same)

-- the first ones and the others are all
of_both : (n : ℕ) (ons : List (Option BoundExpr)) → sum_by count_in (take n ons) + sum_by count_in (drop n ons) ≡ sum_by count_in ons
of_both n ons = sym (sum_by-append count_in (take n ons) (drop n ons)) ∙ ap (sum_by count_in) (take-append-drop n ons)

-- the conjuncts of the ONs that are there
abbrev pub member_count : BoundExpr → ℕ
member_count on = length (conjuncts_of on)

there_count : (ons : List (Option BoundExpr)) → sum_by member_count (flat_map option_to_list ons) ≡ sum_by count_in ons
there_count [] = refl
there_count (None ∷ ons) = let n = there_count ons in let k = sum_by-cons count_in None ons in omega (arith, n, k)
there_count (Some on ∷ ons) =
    let n = there_count ons in
    let k = sum_by-cons count_in (Some on) ons in
    let l = sum_by-cons member_count on (flat_map option_to_list ons) in
    omega (arith, n, k, l)

-- those of a query, and those of the ONs of its left joined entries
abbrev all_conjuncts : BoundQuery → ℕ
all_conjuncts b = length (conjuncts b) + sum_by member_count (left_ons b)

query_bound : (es : List Entry) (q : ast.Query) (b : BoundQuery) → bound_query es q ≡ Ok b → all_conjuncts b ≡ sum_by entry_members es + filter_members q.filter
query_bound es q b e =
    let parts = parts_kept _ _ _ _ _ _ _ _ b e in
    let n = ons_bound es 0 es b.ons parts.0 in
    let m = condition_bound es (everywhere es) q.filter b.filter parts.1 in
    let k = length-append (flat_map conjuncts_in (inner_ons b)) (conjuncts_in b.filter) in
    let l = length-flat_map conjuncts_in (inner_ons b) in
    let f = of_both (length b.ons - b.left_count) b.ons in
    let t = there_count (drop (length b.ons - b.left_count) b.ons) in
    omega arith

-- the checks and ORDER BY keep the conjuncts

not_faulty : {X E : Type 0} (o : Option E) (x y : X) → unless_fault o x ≡ Ok y → x ≡ y
not_faulty None x y e = ok_is x y e
not_faulty (Some fault) x y e = absurd (cc)

checked_kept : (es : List Entry) (q : ast.Query) (c : BoundQuery) (b : Bound) → checked es q c ≡ Ok b → all_conjuncts c ≡ all_conjuncts b.query
checked_kept es q c b e =
    let types = given (ordered es q) b (unless_fault _ c) e in
    let keys = given (λ keys. Ok record { entries = es; query = with_order types.0 keys }) b (on_each (output_key types.0.items) q.order_by) types.2 in
    ap all_conjuncts (not_faulty _ c types.0 types.1) ∙ ap (λ b. all_conjuncts b.query) (ok_is (record { entries = es; query = with_order types.0 keys.0 }) b keys.2)

as_few_conjuncts : (cat : Catalog) (q : ast.Query) (b : Bound) → bound cat q ≡ Ok b → all_conjuncts b.query ≤ limits.conjuncts q
as_few_conjuncts cat q b e =
    let found = given (bound_with q) b (entries cat q) e in
    let all = given lefts_checked b (bound_checked q found.0) found.2 in
    let columns = given (checked found.0 q) all.0 (bound_query found.0 q) all.1 in
    let n = checked_kept found.0 q columns.0 all.0 columns.2 in
    let m = query_bound found.0 q columns.0 columns.1 in
    let k = entries_found cat [] (tables_of q) found.0 found.1 in
    let l = tables_joined q in
    let s = ap (λ b. all_conjuncts b.query) (not_faulty (left_fault all.0.query) all.0 b all.2) in
    omega arith

-- ---- those that are movable

few_movable : (q : BoundQuery) → length (movable_conjuncts q) ≤ length (conjuncts q)
few_movable q =
    let n = length-filter movable (conjuncts q) in
    let m = count_by-le-length movable (conjuncts q) in
    omega arith

second_holds : (a b : Bool) → (a && b) ≡ true → b ≡ true
second_holds true b e = e
second_holds false b e = absurd (cc)

few_conjuncts : (q : ast.Query) → within_limits q ≡ true → limits.conjuncts q ≤ most_conjuncts
few_conjuncts q small = leb-true (limits.conjuncts q) most_conjuncts (second_holds _ _ (first_holds _ _ small))

permitted_conjuncts : (cat : Catalog) (role : Name) (q : ast.Query) (b : Bound) (r : Result Bound BindError)
    → limits.conjuncts q ≤ most_conjuncts → bound cat q ≡ r → permitted cat role r ≡ Ok b → length (movable_conjuncts b.query) ≤ most_conjuncts
permitted_conjuncts cat role q b (Err fault) few is e = absurd (cc)
permitted_conjuncts cat role q b (Ok b') few is e =
    let n = as_few_conjuncts cat q b' is in
    let m = few_movable b'.query in
    subst (λ (b : Bound). length (movable_conjuncts b.query) ≤ most_conjuncts) (not_denied b' b _ e) (omega arith)

-- nor have the ONs of its left joined entries more
permitted_lefts : (cat : Catalog) (role : Name) (q : ast.Query) (b : Bound) (r : Result Bound BindError)
    → limits.conjuncts q ≤ most_conjuncts → bound cat q ≡ r → permitted cat role r ≡ Ok b → sum_by member_count (left_ons b.query) ≤ most_conjuncts
permitted_lefts cat role q b (Err fault) few is e = absurd (cc)
permitted_lefts cat role q b (Ok b') few is e =
    let n = as_few_conjuncts cat q b' is in
    subst (λ (b : Bound). sum_by member_count (left_ons b.query) ≤ most_conjuncts) (not_denied b' b _ e) (omega arith)

pub admitted_lefts : (cat : Catalog) (role : Name) (q : ast.Query) (b : Bound) → within_limits q ≡ true → admitted_query cat role q ≡ Ok b → sum_by member_count (left_ons b.query) ≤ most_conjuncts
admitted_lefts cat role q b small e = permitted_lefts cat role q b (bound cat q) (few_conjuncts q small) refl e

pub admitted_conjuncts : (cat : Catalog) (role : Name) (q : ast.Query) (b : Bound)
    → within_limits q ≡ true → admitted_query cat role q ≡ Ok b → length (movable_conjuncts b.query) ≤ most_conjuncts
admitted_conjuncts cat role q b small e = permitted_conjuncts cat role q b (bound cat q) (few_conjuncts q small) refl e
