-- The left joins of a query that is bound.
use Rattle.std.proofs.Common.{◌≡◌, ◌<◌, ◌≤◌, ℕ, zero, suc, ◌+◌, ◌-◌, Bool, true, false, ◌&&◌, not, if◌then◌else◌, cond, List, [], ◌∷◌, ◌++◌, length, length-append, map, drop, Option, Some, None, Ok, Err, refl, sym, ap, subst, ◌∙◌, arith}
use Rattle.std.specs.Prelude.{⊤, nat_lt, option_map, option_to_list}
use Rattle.std.specs.List.{All, flat_map, slice_get}
use Rattle.std.proofs.lemmas.Bool.{ltb-true}
use Rattle.std.proofs.lemmas.List.Elements.{All-cons, All-nil, All-weaker}
use Rattle.memory.specs.Results.{first_then}
use Rattle.memory.proofs.Cases.{ok_is, some_is}
use Rattle.value.specs.declared.refusal.Refusal.TheVariants as r
use Rattle.row_ast.specs.Ast as ast
use Rattle.row_objects.specs.ColumnNames.{column_index, is_qualified}
use Rattle.row_objects.specs.Objects.{Table}
use Rattle.expr.specs.declared.bound.ColumnId.{ColumnId}
use Rattle.expr.specs.Bound.{BoundExpr}
use Rattle.expr.specs.Columns.{columns}
use Rattle.expr.specs.Conjuncts.{left_ons}
use Rattle.expr.specs.Fragile.{first_fragile}
use Rattle.expr.specs.Movable.{movable}
use Rattle.expr.specs.Offsets.{least_of, least_of_all}
use Rattle.expr.proofs.NoneFragile.{none_is_movable}
use Rattle.scope.specs.declared.lookup.Scope.{Scope}
use Rattle.scope.specs.Entry.{Entry, fault}
use Rattle.scope.specs.Lookup.{find_column, match_in, matches, means_some, on_scope}
use Rattle.scope.specs.BoundExprs.{bound_expr}
use Rattle.scope.proofs.Found.{first_given}
use Rattle.catalog_laws.specs.Catalog.{Catalog}
use Rattle.analysis.specs.BoundQueries.{bound_condition, bound_ons}
use Rattle.analysis.specs.Entries.{JoinedTable, alias_of, entries, entries_in, entry_in, found_entry, is_used, joined, last_first, left_table}
use Rattle.analysis.specs.Resolved.{Bound, bound, bound_with}
use Rattle.analysis.proofs.EntryTables.{given, same_entries, some_joined}
use Rattle.query_laws.specs.LeftJoins.{HasLeftJoins, LeftJoinsAreBound}
use Rattle.query_laws.proofs.Found.{expr_holds, one_more, the_match, the_one}
use Rattle.query_laws.proofs.Parts.{is_made}

-- ---- a name resolves to a column of an entry before the end of its scope

module _ (scope : Scope) (c : ast.ColumnRef) where
  abbrev IsBefore : ColumnId → Type 0
  IsBefore id = id.entry < scope.to

  index_before : (n : ℕ) (o : Option ℕ) → n < scope.to → All IsBefore (option_to_list (option_map (λ column. record { entry = n; column = column }) o))
  index_before n None l = All-nil IsBefore
  index_before n (Some i) l = the_one IsBefore (record { entry = n; column = i }) l

  match_before : (n : ℕ) (e : Entry) → All IsBefore (option_to_list (match_in scope c n e))
  match_before n e = go (nat_lt n scope.from) (nat_lt n scope.to) (is_qualified e.alias c.table) refl
    where
      go : (a b q : Bool) → nat_lt n scope.to ≡ b → All IsBefore (option_to_list (if (not a && b) && q then option_map (λ column. record { entry = n; column = column }) (column_index e.table.columns c.name) else None))
      go true b q l = All-nil IsBefore
      go false false q l = All-nil IsBefore
      go false true false l = All-nil IsBefore
      go false true true l = index_before n (column_index e.table.columns c.name) (ltb-true n scope.to l)

  matches_before : (n : ℕ) (es : List Entry) → All IsBefore (matches scope c n es)
  matches_before n [] = All-nil IsBefore
  matches_before n (e ∷ more) = one_more IsBefore (match_in scope c n e) (matches scope c (n + 1) more) (match_before n e) (matches_before (n + 1) more)

  found_before : (es : List Entry) (id : ColumnId) → find_column es scope c ≡ Ok id → IsBefore id
  found_before es id e = the_match IsBefore c.offset (means_some scope c 0 es) (matches scope c 0 es) id (matches_before 0 es) e

-- ---- the entries of left joins come last, and have ONs

abbrev HaveOns : List Entry → Type 0
HaveOns [] = ⊤
HaveOns (e ∷ es) = (c : ast.Condition) × (e.on ≡ Some c) × HaveOns es

on_kept : (before : List Entry) (j : JoinedTable) (e : Entry) (o : Option Table) → found_entry before j o ≡ Ok e → e.on ≡ j.on
on_kept before j e None h = absurd (cc)
on_kept before j e (Some t) h = go (is_used (alias_of j.table) before) h
  where
    go : (b : Bool) → cond b (Err (fault r.DuplicateAlias j.table.offset)) (Ok record { table = t; alias = alias_of j.table; first = j.first; on = j.on }) ≡ Ok e → e.on ≡ j.on
    go true h = absurd (cc)
    go false h = cc

module _ (cat : Catalog) (first : ℕ) where
  have_ons : (before : List Entry) (ls : List ast.LeftJoin) (es : List Entry) → entries_in cat before (map (left_table first) ls) ≡ Ok es → (length es ≡ length ls) × HaveOns es
  have_ons before [] es h = subst (λ (es : List Entry). (length es ≡ 0) × HaveOns es) (ok_is [] es h) (refl, tt)
  have_ons before (l ∷ ls) es h =
      let step = given (λ e. first_then (Ok e) (entries_in cat (before ++ e ∷ []) (map (left_table first) ls))) es (entry_in cat before (left_table first l)) h in
      let rest = first_given (Ok step.0) (entries_in cat (before ++ step.0 ∷ []) (map (left_table first) ls)) es step.2 in
      let same : step.0 ∷ rest.1 ≡ es = ap (λ (e : Entry). e ∷ rest.1) (ok_is step.0 rest.0 rest.2) ∙ rest.4 in
      let later = have_ons (before ++ step.0 ∷ []) ls rest.1 rest.3 in
      subst (λ (es : List Entry). (length es ≡ length (l ∷ ls)) × HaveOns es) same (ap suc later.0, (l.on_, on_kept before (left_table first l) step.0 _ step.1, later.1))

  -- those of comma items, and then those of left joins
  abbrev Parted : List JoinedTable → List ast.LeftJoin → List Entry → Type 0
  Parted js ls es = (a : List Entry) × (b : List Entry) × (a ++ b ≡ es) × (length a ≡ length js) × (length b ≡ length ls) × HaveOns b

  parted : (before : List Entry) (js : List JoinedTable) (ls : List ast.LeftJoin) (es : List Entry) → entries_in cat before (js ++ map (left_table first) ls) ≡ Ok es → Parted js ls es
  parted before [] ls es h = let it = have_ons before ls es h in ([], es, refl, refl, it.0, it.1)
  parted before (j ∷ js) ls es h =
      let more = js ++ map (left_table first) ls in
      let step = given (λ e. first_then (Ok e) (entries_in cat (before ++ e ∷ []) more)) es (entry_in cat before j) h in
      let rest = first_given (Ok step.0) (entries_in cat (before ++ step.0 ∷ []) more) es step.2 in
      let same : step.0 ∷ rest.1 ≡ es = ap (λ (e : Entry). e ∷ rest.1) (ok_is step.0 rest.0 rest.2) ∙ rest.4 in
      let later = parted (before ++ step.0 ∷ []) js ls rest.1 rest.3 in
      (step.0 ∷ later.0, later.1, ap (λ (l : List Entry). step.0 ∷ l) later.2 ∙ same, ap suc later.3, later.4, later.5)

-- ---- their ONs

abbrev IsUpTo : ℕ → BoundExpr → Type 0
IsUpTo n on = All (λ (id : ColumnId). id.entry ≤ n) (columns on)

-- each names columns of entries up to its own, from an entry on
abbrev Reach : ℕ → List BoundExpr → Type 0
Reach n ons = (k : ℕ) (on : BoundExpr) → slice_get ons k ≡ Some on → IsUpTo (n + k) on

one_on : (n : ℕ) (on : BoundExpr) (ons : List BoundExpr) → All (λ (id : ColumnId). id.entry < n + 1) (columns on) → Reach (n + 1) ons → Reach n (on ∷ ons)
one_on n on ons here later zero x is =
    subst (IsUpTo (n + 0)) (some_is on x is) (All-weaker (λ (id : ColumnId). id.entry < n + 1) (λ (id : ColumnId). id.entry ≤ n + 0) (λ id l. omega (arith, l)) (columns on) here)
one_on n on ons here later (suc k) x is =
    let same : n + 1 + k ≡ n + suc k = omega arith in subst (λ m. IsUpTo m x) same (later k x is)

module _ (es : List Entry) where
  of_entries : (n : ℕ) (ls : List Entry) → HaveOns ls → (os : List (Option BoundExpr)) → bound_ons es n ls ≡ Ok os → (length (flat_map option_to_list os) ≡ length ls) × Reach n (flat_map option_to_list os)
  of_entries n [] h os e =
      subst (λ (os : List (Option BoundExpr)). (length (flat_map option_to_list os) ≡ 0) × Reach n (flat_map option_to_list os)) (ok_is [] os e) (refl, λ k on is. absurd (cc))
  of_entries n (y ∷ ls) h os e =
      let step = first_given (bound_condition es (on_scope n y) y.on) (bound_ons es (n + 1) ls) os e in
      let on = given (λ x. Ok (Some x)) step.0 (bound_expr es (on_scope n y) h.0.predicate) (sym (ap (bound_condition es (on_scope n y)) h.1) ∙ step.2) in
      let rest = of_entries (n + 1) ls h.2 step.1 step.3 in
      let here = expr_holds es (λ (id : ColumnId). id.entry < n + 1) (on_scope n y) (λ c id. found_before (on_scope n y) c es id) h.0.predicate on.0 on.1 in
      subst (λ (os : List (Option BoundExpr)). (length (flat_map option_to_list os) ≡ length (y ∷ ls)) × Reach n (flat_map option_to_list os)) (ap (λ (o : Option BoundExpr). o ∷ step.1) (ok_is (Some on.0) step.0 on.2) ∙ step.4)
      (ap suc rest.0, one_on n on.0 (flat_map option_to_list step.1) here rest.1)

  -- the ONs of the last entries are the last ONs
  last_ons : (n : ℕ) (a b : List Entry) (os : List (Option BoundExpr)) → bound_ons es n (a ++ b) ≡ Ok os → bound_ons es (n + length a) b ≡ Ok (drop (length a) os)
  last_ons n [] b os e = let same : n + 0 ≡ n = omega arith in ap (λ m. bound_ons es m b) same ∙ e
  last_ons n (y ∷ a) b os e =
      let step = first_given (bound_condition es (on_scope n y) y.on) (bound_ons es (n + 1) (a ++ b)) os e in
      let same : n + suc (length a) ≡ n + 1 + length a = omega arith in
      ap (λ m. bound_ons es m b) same ∙ last_ons (n + 1) a b step.1 step.3 ∙ ap (λ (os : List (Option BoundExpr)). Ok (drop (suc (length a)) os)) step.4

  all_ons : (n : ℕ) (ls : List Entry) (os : List (Option BoundExpr)) → bound_ons es n ls ≡ Ok os → length os ≡ length ls
  all_ons n [] os e = sym (ap length (ok_is [] os e))
  all_ons n (y ∷ ls) os e =
      let step = first_given (bound_condition es (on_scope n y) y.on) (bound_ons es (n + 1) ls) os e in
      sym (ap length step.4) ∙ ap suc (all_ons (n + 1) ls step.1 step.3)

-- ---- what may fault

both_none : (a b : Option ℕ) → least_of a b ≡ None → (a ≡ None) × (b ≡ None)
both_none None b h = (refl, h)
both_none (Some i) None h = absurd (cc)
both_none (Some i) (Some j) h = absurd (cc)

all_movable : (ons : List BoundExpr) → least_of_all (map first_fragile ons) ≡ None → All (λ on. movable on ≡ true) ons
all_movable [] h = All-nil (λ (on : BoundExpr). movable on ≡ true)
all_movable (on ∷ ons) h =
    let parts = both_none (first_fragile on) (least_of_all (map first_fragile ons)) h in
    All-cons (λ (on : BoundExpr). movable on ≡ true) on ons (none_is_movable on parts.0) (all_movable ons parts.1)

none_mapped : {X Y : Type 0} (f : X → Y) (o : Option X) → option_map f o ≡ None → o ≡ None
none_mapped f None h = refl
none_mapped f (Some x) h = absurd (cc)

-- ---- the law

module _ (cat : Catalog) (q : ast.Query) (b : Bound) (some : 0 < length q.from) (is : bound cat q ≡ Ok b) where
  all_parted : Parted cat (last_first 0 q.from) (joined 0 q.from) q.lefts b.entries
  all_parted =
      let found = given (bound_with q) b (entries cat q) is in
      subst (Parted cat (last_first 0 q.from) (joined 0 q.from) q.lefts) (same_entries found.0 q b found.2) (parted cat (last_first 0 q.from) [] (joined 0 q.from) q.lefts found.0 found.1)

  has_left_joins : HasLeftJoins b
  has_left_joins =
      let made = is_made cat q b is in
      let parts = made.parts in
      let split = all_parted in
      let es = b.entries in
      let a = split.0 in
      let lefts = split.1 in
      let ons = all_ons es 0 es b.query.ons parts.ons in
      let those = length-append a lefts in
      let whole = ap length split.2 in
      let some_first = some_joined q.from some in
      let at : length b.query.ons - b.query.left_count ≡ length a = omega (arith, ons, those, whole, split.4, parts.lefts) in
      let start : length es - b.query.left_count ≡ 0 + length a = omega (arith, at, ons) in
      let of_lefts = of_entries es (0 + length a) lefts split.5 (drop (length a) b.query.ons) (last_ons es 0 a lefts b.query.ons (ap (bound_ons es 0) split.2 ∙ parts.ons)) in
      let same : left_ons b.query ≡ flat_map option_to_list (drop (length a) b.query.ons) = ap (λ n. flat_map option_to_list (drop n b.query.ons)) at in
      record {
        ons = ons;
        inner = omega (arith, those, whole, split.3, split.4, parts.lefts, some_first);
        as_many = ap length same ∙ of_lefts.0 ∙ split.4 ∙ parts.lefts;
        movable = all_movable (left_ons b.query) (none_mapped (fault r.FeatureNotSupported) (least_of_all (map first_fragile (left_ons b.query))) made.lefts);
        reach = λ k on at_k. subst (λ n. IsUpTo (n + k) on) (sym start) (of_lefts.1 k on (sym (ap (λ l. slice_get l k) same) ∙ at_k));
      }

pub left_joins_are_bound : LeftJoinsAreBound
left_joins_are_bound cat q b some is = has_left_joins cat q b some is
