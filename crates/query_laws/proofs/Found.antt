-- A name that resolves, resolves to a column of the table of an entry; and so does each column of what is bound.
use Rattle.std.proofs.Common.{◌≡◌, ℕ, suc, ◌+◌, Bool, true, false, if◌then◌else◌, cond, List, [], ◌∷◌, ◌++◌, Option, Some, None, Result, Ok, refl, sym, ap, subst, ◌∙◌, arith}
use Rattle.std.specs.Prelude.{option_map, option_to_list}
use Rattle.std.specs.List.{All, cons_option, flat_map, position_from, slice_get}
use Rattle.std.specs.Str.{bytes_eq}
use Rattle.std.proofs.lemmas.List.Elements.{All-append, All-cons, All-head, All-nil, All-tail}
use Rattle.memory.specs.Results.{and_then, on_each}
use Rattle.memory.proofs.Cases.{ok_is}
use Rattle.value.specs.Columns.{Column}
use Rattle.value.specs.Names.{Name}
use Rattle.row_ast.specs.Ast as ast
use Rattle.expr.specs.declared.bound.ColumnId.{ColumnId}
use Rattle.expr.specs.Bound as bound
use Rattle.expr.specs.Bound.{BoundExpr, BoundExprs, BoundArms, BoundOtherwise, bound_arms_of, bound_exprs_of}
use Rattle.expr.specs.BoundQuery.{BoundItem}
use Rattle.expr.specs.Columns.{columns, all_columns, arms_columns, otherwise_columns}
use Rattle.expr.specs.NamedColumns.{item_columns, condition_columns}
use Rattle.row_objects.specs.ColumnNames.{column_index}
use Rattle.scope.specs.declared.error.BindError.{BindError}
use Rattle.scope.specs.declared.lookup.Scope.{Scope}
use Rattle.scope.specs.Entry.{Entry}
use Rattle.scope.specs.Lookup.{find_column, is_meant, match_in, matches, means_some, on_scope, one_column}
use Rattle.scope.specs.BoundExprs.{bound_arms, bound_expr, bound_members, bound_otherwise, pair}
use Rattle.analysis.specs.BoundQueries.{bound_condition, bound_item, bound_ons, bound_select, column_items, every_item, heading_or}
use Rattle.scope.proofs.Found.{first_given, pair_given}
use Rattle.analysis.proofs.EntryTables.{given}

-- ---- elements

pub the_one : {X : Type 0} (P : X → Type 0) (x : X) → P x → All P (x ∷ [])
the_one P x p = All-cons P x [] p (All-nil P)

pub of_each : {X Y : Type 0} (P : Y → Type 0) (f : X → List Y) (xs : List X) → All (λ x. All P (f x)) xs → All P (flat_map f xs)
of_each P f [] h = All-nil P
of_each P f (x ∷ xs) h = All-append P (f x) (flat_map f xs) (All-head (λ x. All P (f x)) x xs h) (of_each P f xs (All-tail (λ x. All P (f x)) x xs h))

pub one_more : {X : Type 0} (P : X → Type 0) (o : Option X) (xs : List X) → All P (option_to_list o) → All P xs → All P (cons_option o xs)
one_more P None xs h k = k
one_more P (Some x) xs h k = All-cons P x xs (All-head P x [] h) k

-- what a name resolves to is one of its matches
pub the_match : (P : ColumnId → Type 0) (offset : ℕ) (b : Bool) (ids : List ColumnId) (id : ColumnId) → All P ids → one_column offset b ids ≡ Ok id → P id
the_match P offset b (x ∷ []) id h e = subst P (ok_is x id e) (All-head P x [] h)
the_match P offset b (x ∷ y ∷ more) id h e = absurd (cc)
the_match P offset false [] id h e = absurd (cc)
the_match P offset true [] id h e = absurd (cc)

-- each value of a function holds what it holds of one
pub each_holds : {X Y E : Type 0} (f : X → Result Y E) (P : Y → Type 0) → ((x : X) (y : Y) → f x ≡ Ok y → P y) → (xs : List X) (ys : List Y) → on_each f xs ≡ Ok ys → All P ys
each_holds {X} {Y} f P h [] ys e = subst (λ (ys : List Y). All P ys) (ok_is [] ys e) (All-nil P)
each_holds {X} {Y} f P h (x ∷ xs) ys e =
    let step = first_given (f x) (on_each f xs) ys e in
    subst (λ (ys : List Y). All P ys) step.4 (All-cons P step.0 step.1 (h x step.0 step.2) (each_holds f P h xs step.1 step.3))

-- ---- columns

-- a column of the table of an entry
pub record IsThere (entries : List Entry) (id : ColumnId) : Type 0 where
  pub entry : Entry
  pub column : Column
  pub entry_is : slice_get entries id.entry ≡ Some entry
  pub column_is : slice_get entry.table.columns id.column ≡ Some column

position_there : {X : Type 0} (p : X → Bool) (k i : ℕ) (xs : List X) → position_from p k xs ≡ Some i → (j : ℕ) × (x : X) × (i ≡ k + j) × (slice_get xs j ≡ Some x)
position_there {X} p k i [] h = absurd (cc)
position_there {X} p k i (x ∷ xs) h = go (p x) (position_there p (k + 1) i xs) h
  where
    go : (b : Bool) → (position_from p (k + 1) xs ≡ Some i → (j : ℕ) × (y : X) × (i ≡ k + 1 + j) × (slice_get xs j ≡ Some y)) → cond b (Some k) (position_from p (k + 1) xs) ≡ Some i → (j : ℕ) × (y : X) × (i ≡ k + j) × (slice_get (x ∷ xs) j ≡ Some y)
    go true rest e = let same : k ≡ i = cc in (0, x, omega arith, refl)
    go false rest e = let it = rest e in (suc it.0, it.1, omega (arith, it.2), it.3)

index_there : (cs : List Column) (name : Name) (i : ℕ) → column_index cs name ≡ Some i → (c : Column) × (slice_get cs i ≡ Some c)
index_there cs name i h =
    let it = position_there (λ (column : Column). bytes_eq name column.name) 0 i cs h in
    let same : it.0 ≡ i = omega (arith, it.2) in
    (it.1, ap (slice_get cs) (sym same) ∙ it.3)

-- ---- expressions, whose columns hold what each column holds that a name resolves to

module _ (entries : List Entry) (P : ColumnId → Type 0) where
  abbrev Names : Result BoundExpr BindError → Type 0
  Names r = (x : BoundExpr) → r ≡ Ok x → All P (columns x)

  named : (y : BoundExpr) → All P (columns y) → Names (Ok y)
  named y h x e = subst (λ (x : BoundExpr). All P (columns x)) (ok_is y x e) h

  after : {X : Type 0} (r : Result X BindError) (f : X → Result BoundExpr BindError) → ((y : X) → r ≡ Ok y → Names (f y)) → Names (and_then r f)
  after r f h x e = let step = given f x r e in h step.0 step.1 x step.2

  -- of each of several expressions, or of the conditions and results of arms
  abbrev EachHolds : List BoundExpr → Type 0
  EachHolds [] = Unit {0}
  EachHolds (x ∷ xs) = All P (columns x) × EachHolds xs

  all_hold : (xs : List BoundExpr) → EachHolds xs → All P (all_columns (bound_exprs_of xs))
  all_hold [] h = All-nil P
  all_hold (x ∷ xs) h = All-append P (columns x) (all_columns (bound_exprs_of xs)) h.0 (all_hold xs h.1)

  abbrev ArmsHold : List (BoundExpr × BoundExpr) → Type 0
  ArmsHold [] = Unit {0}
  ArmsHold (a ∷ as_) = All P (columns a.0) × All P (columns a.1) × ArmsHold as_

  arms_hold : (xs : List (BoundExpr × BoundExpr)) → ArmsHold xs → All P (arms_columns (bound_arms_of xs))
  arms_hold [] h = All-nil P
  arms_hold (a ∷ as_) h =
      All-append P (columns a.0) (columns a.1 ++ arms_columns (bound_arms_of as_)) h.0
      (All-append P (columns a.1) (arms_columns (bound_arms_of as_)) h.1 (arms_hold as_ h.2))

  module _ (scope : Scope) (found : (c : ast.ColumnRef) (id : ColumnId) → find_column entries scope c ≡ Ok id → P id) where
    mutual
      pub expr_holds : (e : ast.Expr) → Names (bound_expr entries scope e)
      expr_holds (ast.Column c) = after (find_column entries scope c) _ (λ id is. named (bound.Column id) (the_one P id (found c id is)))
      expr_holds (ast.Literal d) = named (bound.Literal d) (All-nil P)
      expr_holds ast.CurrentUser = named bound.CurrentUser (All-nil P)
      expr_holds (ast.Negate n e) = after (bound_expr entries scope e) _ (λ x is. named (bound.Negate n x) (expr_holds e x is))
      expr_holds (ast.Arithmetic op n e f) =
          after (bound_expr entries scope e) _ (λ x is_x. after (bound_expr entries scope f) _ (λ y is_y. named (bound.Arithmetic op n x y) (All-append P (columns x) (columns y) (expr_holds e x is_x) (expr_holds f y is_y))))
      expr_holds (ast.Comparison op n e f) =
          after (bound_expr entries scope e) _ (λ x is_x. after (bound_expr entries scope f) _ (λ y is_y. named (bound.Comparison op n x y) (All-append P (columns x) (columns y) (expr_holds e x is_x) (expr_holds f y is_y))))
      expr_holds (ast.Between negated n e low high) =
          after (bound_expr entries scope e) _ (λ x is_x. after (bound_expr entries scope low) _ (λ y is_y. after (bound_expr entries scope high) _ (λ z is_z.
          named (bound.Between negated n x y z) (All-append P (columns x) (columns y ++ columns z) (expr_holds e x is_x) (All-append P (columns y) (columns z) (expr_holds low y is_y) (expr_holds high z is_z))))))
      expr_holds (ast.In negated n values e) = after (bound_expr entries scope e) _ (λ x is. named (bound.In negated n values x) (expr_holds e x is))
      expr_holds (ast.IsNull negated n e) = after (bound_expr entries scope e) _ (λ x is. named (bound.IsNull negated n x) (expr_holds e x is))
      expr_holds (ast.Not n e) = after (bound_expr entries scope e) _ (λ x is. named (bound.Not n x) (expr_holds e x is))
      expr_holds (ast.And n ms) = after (bound_members entries scope ms) _ (λ xs is. named (bound.And n (bound_exprs_of xs)) (all_hold xs (members_hold ms xs is)))
      expr_holds (ast.Or n ms) = after (bound_members entries scope ms) _ (λ xs is. named (bound.Or n (bound_exprs_of xs)) (all_hold xs (members_hold ms xs is)))
      expr_holds (ast.Cast n to e) = after (bound_expr entries scope e) _ (λ x is. named (bound.Cast n to x) (expr_holds e x is))
      expr_holds (ast.Case n as_ o) =
          after (bound_arms entries scope as_) _ (λ xs is_xs. after (bound_otherwise entries scope o) _ (λ y is_y.
          named (bound.Case n (bound_arms_of xs) y) (All-append P (arms_columns (bound_arms_of xs)) (otherwise_columns y) (arms_hold xs (each_arm as_ xs is_xs)) (otherwise_holds o y is_y))))
      expr_holds (ast.CountStar n) = named (bound.CountStar n) (All-nil P)
      expr_holds (ast.Call f n e) = after (bound_expr entries scope e) _ (λ x is. named (bound.Call f n x) (expr_holds e x is))

      members_hold : (ms : ast.Exprs) (xs : List BoundExpr) → bound_members entries scope ms ≡ Ok xs → EachHolds xs
      members_hold ast.no_expr xs e = subst EachHolds (ok_is [] xs e) tt
      members_hold (ast.one_expr m ms) xs e =
          let step = first_given (bound_expr entries scope m) (bound_members entries scope ms) xs e in
          subst EachHolds step.4 (expr_holds m step.0 step.2, members_hold ms step.1 step.3)

      each_arm : (as_ : ast.Arms) (xs : List (BoundExpr × BoundExpr)) → bound_arms entries scope as_ ≡ Ok xs → ArmsHold xs
      each_arm ast.no_arm xs e = subst ArmsHold (ok_is [] xs e) tt
      each_arm (ast.one_arm when result as_) xs e =
          let step = first_given (pair (bound_expr entries scope when) (bound_expr entries scope result)) (bound_arms entries scope as_) xs e in
          let arm = pair_given (bound_expr entries scope when) (bound_expr entries scope result) step.0 step.2 in
          subst ArmsHold (ap (λ (p : BoundExpr × BoundExpr). p ∷ step.1) arm.4 ∙ step.4) (expr_holds when arm.0 arm.2, expr_holds result arm.1 arm.3, each_arm as_ step.1 step.3)

      otherwise_holds : (o : ast.Otherwise) (y : BoundOtherwise) → bound_otherwise entries scope o ≡ Ok y → All P (otherwise_columns y)
      otherwise_holds ast.Nothing y e = subst (λ (y : BoundOtherwise). All P (otherwise_columns y)) (ok_is bound.Nothing y e) (All-nil P)
      otherwise_holds (ast.Value e) y h =
          let step = given (λ x. Ok (bound.Value x)) y (bound_expr entries scope e) h in
          subst (λ (y : BoundOtherwise). All P (otherwise_columns y)) (ok_is (bound.Value step.0) y step.2) (expr_holds e step.0 step.1)

-- ---- columns that are there

module _ (entries : List Entry) where
  module _ (n : ℕ) (e : Entry) (is : slice_get entries n ≡ Some e) where
    column_there : (o : Option ℕ) → ((i : ℕ) → o ≡ Some i → (c : Column) × (slice_get e.table.columns i ≡ Some c)) → All (IsThere entries) (option_to_list (option_map (λ column. record { entry = n; column = column }) o))
    column_there None h = All-nil (IsThere entries)
    column_there (Some i) h = let it = h i refl in the_one (IsThere entries) (record { entry = n; column = i }) (record { entry = e; column = it.0; entry_is = is; column_is = it.1 })

    match_there : (b : Bool) (name : Name) → All (IsThere entries) (option_to_list (if b then option_map (λ column. record { entry = n; column = column }) (column_index e.table.columns name) else None))
    match_there true name = column_there (column_index e.table.columns name) (λ i h. index_there e.table.columns name i h)
    match_there false name = All-nil (IsThere entries)

  matches_there : (scope : Scope) (c : ast.ColumnRef) (n : ℕ) (es : List Entry) → ((k : ℕ) → slice_get entries (n + k) ≡ slice_get es k) → All (IsThere entries) (matches scope c n es)
  matches_there scope c n [] h = All-nil (IsThere entries)
  matches_there scope c n (e ∷ more) h =
      let at : n + 0 ≡ n = omega arith in
      one_more (IsThere entries) (match_in scope c n e) (matches scope c (n + 1) more) (match_there n e (ap (slice_get entries) (sym at) ∙ h 0) (is_meant scope c n e) c.name)
      (matches_there scope c (n + 1) more (λ k. let next : n + 1 + k ≡ n + suc k = omega arith in ap (slice_get entries) next ∙ h (suc k)))

  pub found_there : (scope : Scope) (c : ast.ColumnRef) (id : ColumnId) → find_column entries scope c ≡ Ok id → IsThere entries id
  found_there scope c id e =
      the_match (IsThere entries) c.offset (means_some scope c 0 entries) (matches scope c 0 entries) id (matches_there scope c 0 entries (λ k. let at : 0 + k ≡ k = omega arith in ap (slice_get entries) at)) e

  module _ (scope : Scope) where
    expr_there : (e : ast.Expr) (x : BoundExpr) → bound_expr entries scope e ≡ Ok x → All (IsThere entries) (columns x)
    expr_there = expr_holds entries (IsThere entries) scope (found_there scope)

    pub condition_there : (o : Option ast.Condition) (x : Option BoundExpr) → bound_condition entries scope o ≡ Ok x → All (IsThere entries) (condition_columns x)
    condition_there None x e = subst (λ (x : Option BoundExpr). All (IsThere entries) (condition_columns x)) (ok_is None x e) (All-nil (IsThere entries))
    condition_there (Some c) x e =
        let step = given (λ y. Ok (Some y)) x (bound_expr entries scope c.predicate) e in
        subst (λ (x : Option BoundExpr). All (IsThere entries) (condition_columns x)) (ok_is (Some step.0) x step.2) (expr_there c.predicate step.0 step.1)

    -- ---- GROUP BY

    pub columns_there : (cs : List ast.ColumnRef) (ids : List ColumnId) → on_each (find_column entries scope) cs ≡ Ok ids → All (IsThere entries) ids
    columns_there = each_holds (find_column entries scope) (IsThere entries) (found_there scope)

    -- ---- items

    abbrev ItemThere : BoundItem → Type 0
    ItemThere i = All (IsThere entries) (item_columns i)

    item_there : (i : ast.SelectItem) (x : BoundItem) → bound_item entries scope i ≡ Ok x → ItemThere x
    item_there i x e =
        let step = given (λ y. Ok record { heading = heading_or i.alias i.value; value = y }) x (bound_expr entries scope i.value) e in
        let made : BoundItem = record { heading = heading_or i.alias i.value; value = step.0 } in
        subst ItemThere (ok_is made x step.2) (expr_there i.value step.0 step.1)

    -- the columns of an entry, from an index on
    each_column : (n : ℕ) (e : Entry) → slice_get entries n ≡ Some e → (k : ℕ) (cs : List Column) → ((j : ℕ) → slice_get e.table.columns (k + j) ≡ slice_get cs j) → All ItemThere (column_items n k cs)
    each_column n e is k [] h = All-nil ItemThere
    each_column n e is k (c ∷ more) h =
        let at : k + 0 ≡ k = omega arith in
        let id : ColumnId = record { entry = n; column = k } in
        All-cons ItemThere (record { heading = c.name; value = bound.Column id }) (column_items n (k + 1) more)
        (the_one (IsThere entries) id (record { entry = e; column = c; entry_is = is; column_is = ap (slice_get e.table.columns) (sym at) ∙ h 0 }))
        (each_column n e is (k + 1) more (λ j. let next : k + 1 + j ≡ k + suc j = omega arith in ap (slice_get e.table.columns) next ∙ h (suc j)))

    each_entry : (n : ℕ) (es : List Entry) → ((k : ℕ) → slice_get entries (n + k) ≡ slice_get es k) → All ItemThere (every_item n es)
    each_entry n [] h = All-nil ItemThere
    each_entry n (e ∷ more) h =
        let at : n + 0 ≡ n = omega arith in
        All-append ItemThere (column_items n 0 e.table.columns) (every_item (n + 1) more)
        (each_column n e (ap (slice_get entries) (sym at) ∙ h 0) 0 e.table.columns (λ j. let same : 0 + j ≡ j = omega arith in ap (slice_get e.table.columns) same))
        (each_entry (n + 1) more (λ k. let next : n + 1 + k ≡ n + suc k = omega arith in ap (slice_get entries) next ∙ h (suc k)))

    pub select_there : (s : ast.SelectList) (xs : List BoundItem) → bound_select entries scope s ≡ Ok xs → All ItemThere xs
    select_there (ast.All offset) xs e =
        subst (λ (xs : List BoundItem). All ItemThere xs) (ok_is (every_item 0 entries) xs e) (each_entry 0 entries (λ k. let same : 0 + k ≡ k = omega arith in ap (slice_get entries) same))
    select_there (ast.Items items) xs e = each_holds (bound_item entries scope) ItemThere item_there items xs e

  -- ---- the ON of each entry

  abbrev OnThere : Option BoundExpr → Type 0
  OnThere x = All (IsThere entries) (condition_columns x)

  pub ons_there : (number : ℕ) (more : List Entry) (ons : List (Option BoundExpr)) → bound_ons entries number more ≡ Ok ons → All OnThere ons
  ons_there number [] ons e = subst (λ (ons : List (Option BoundExpr)). All OnThere ons) (ok_is [] ons e) (All-nil OnThere)
  ons_there number (y ∷ more) ons e =
      let step = first_given (bound_condition entries (on_scope number y) y.on) (bound_ons entries (number + 1) more) ons e in
      subst (λ (ons : List (Option BoundExpr)). All OnThere ons) step.4 (All-cons OnThere step.0 step.1 (condition_there (on_scope number y) y.on step.0 step.2) (ons_there (number + 1) more step.1 step.3))
