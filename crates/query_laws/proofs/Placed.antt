-- The aggregates of an admitted query, and the columns beside them, are where they may be.
use Rattle.std.proofs.Common.{◌≡◌, ℕ, ◌+◌, Bool, true, false, not, ◌&&◌, ◌||◌, if◌then◌else◌, List, [], ◌∷◌, ◌++◌, map, Option, Some, None, Result, Ok, refl, sym, ap, subst, ◌∙◌, true≢false}
use Rattle.std.specs.Prelude.{is_some, option_to_list}
use Rattle.std.specs.List.{All, list_any}
use Rattle.std.proofs.lemmas.List.Elements.{All-append, All-cons, All-nil, All-weaker}
use Rattle.memory.specs.Results.{and_then, on_each}
use Rattle.memory.proofs.Cases.{ok_is, some_is_not}
use Rattle.value.specs.Columns.{Column}
use Rattle.value.specs.declared.operators.Aggregate.{Aggregate}
use Rattle.value.specs.declared.operators.Aggregate.TheVariants.{Count}
use Rattle.row_ast.specs.Ast as ast
use Rattle.row_ast.specs.Ast.{is_empty}
use Rattle.expr.specs.declared.bound.ColumnId.{ColumnId}
use Rattle.expr.specs.Aggregates.{AggregateCall, aggregates, all_aggregates, arms_aggregates, otherwise_aggregates}
use Rattle.expr.specs.Bound as bound
use Rattle.expr.specs.Bound.{BoundExpr, BoundOtherwise, bound_arms_of, bound_exprs_of, is_column}
use Rattle.expr.specs.BoundQuery.{BoundItem}
use Rattle.scope.specs.declared.error.BindError.{BindError}
use Rattle.scope.specs.declared.lookup.Scope.{Scope}
use Rattle.scope.specs.Entry.{Entry}
use Rattle.scope.specs.Lookup.{everywhere, find_column, on_scope}
use Rattle.scope.specs.BoundExprs.{bound_arms, bound_expr, bound_members, bound_otherwise, pair}
use Rattle.expr.specs.Offsets.{least_of, least_of_all}
use Rattle.typing.specs.Grouping.{misplaced, misplaced_arms, misplaced_call, misplaced_column, misplaced_members, misplaced_otherwise}
use Rattle.typing.specs.Clauses.{are_grouped, every_grouped, first_fault, is_grouped, misplaced_by, misplaced_condition, misplaced_in, misplaced_ons, misplaced_select, misplaced_star, mistyped_in}
use Rattle.analysis.specs.BoundQueries.{bound_condition, bound_item, bound_ons, bound_select, column_items, every_item, heading_or}
use Rattle.analysis.specs.Resolved.{Bound}
use Rattle.scope.proofs.Found.{first_given, pair_given}
use Rattle.analysis.proofs.EntryTables.{given}
use Rattle.query_laws.specs.Admitted.{AggregatesArePlaced, HasPlainArgument, IsOfGroups, IsPlaced, IsPlain}
use Rattle.query_laws.specs.Outside.{all_outside, arms_outside, otherwise_outside, outside_aggregates}
use Rattle.query_laws.proofs.Found.{the_one}
use Rattle.query_laws.proofs.Parts.{IsMade, admitted_bound, is_made}

-- ---- no offset

pub neither : (a b : Option ℕ) → least_of a b ≡ None → (a ≡ None) × (b ≡ None)
neither None b e = (refl, e)
neither (Some i) None e = absurd (cc)
neither (Some i) (Some j) e = absurd (cc)

no_fault : (a b : Option ℕ) → first_fault a b ≡ None → a ≡ None
no_fault (Some offset) b e = absurd (cc)
no_fault None b e = refl

-- ---- columns outside aggregates, and aggregates, in a place that is of groups or is not

module _ (group_by : List ColumnId) where
  abbrev IsKey : ColumnId → Type 0
  IsKey id = list_any (is_column id) group_by ≡ true

  abbrev Fits : Bool → List ColumnId → List AggregateCall → Type 0
  Fits false ids calls = calls ≡ []
  Fits true ids calls = All IsKey ids × All HasPlainArgument calls

  none_fit : (b : Bool) → Fits b [] []
  none_fit false = refl
  none_fit true = (All-nil IsKey, All-nil HasPlainArgument)

  both_fit : (b : Bool) (ids more : List ColumnId) (calls rest : List AggregateCall) → Fits b ids calls → Fits b more rest → Fits b (ids ++ more) (calls ++ rest)
  both_fit false ids more calls rest h k = rw (h, k) refl
  both_fit true ids more calls rest h k = (All-append IsKey ids more h.0 k.0, All-append HasPlainArgument calls rest h.1 k.1)

  abbrev FitsExpr : Bool → BoundExpr → Type 0
  FitsExpr b x = Fits b (outside_aggregates x) (aggregates x)

  abbrev EachFits : Bool → List BoundExpr → Type 0
  EachFits b [] = Unit {0}
  EachFits b (x ∷ xs) = FitsExpr b x × EachFits b xs

  all_fit : (b : Bool) (xs : List BoundExpr) → EachFits b xs → Fits b (all_outside (bound_exprs_of xs)) (all_aggregates (bound_exprs_of xs))
  all_fit b [] h = none_fit b
  all_fit b (x ∷ xs) h = both_fit b (outside_aggregates x) (all_outside (bound_exprs_of xs)) (aggregates x) (all_aggregates (bound_exprs_of xs)) h.0 (all_fit b xs h.1)

  abbrev ArmsFit : Bool → List (BoundExpr × BoundExpr) → Type 0
  ArmsFit b [] = Unit {0}
  ArmsFit b (a ∷ as_) = FitsExpr b a.0 × FitsExpr b a.1 × ArmsFit b as_

  arms_fit : (b : Bool) (xs : List (BoundExpr × BoundExpr)) → ArmsFit b xs → Fits b (arms_outside (bound_arms_of xs)) (arms_aggregates (bound_arms_of xs))
  arms_fit b [] h = none_fit b
  arms_fit b (a ∷ as_) h =
      both_fit b (outside_aggregates a.0) (outside_aggregates a.1 ++ arms_outside (bound_arms_of as_)) (aggregates a.0) (aggregates a.1 ++ arms_aggregates (bound_arms_of as_)) h.0
      (both_fit b (outside_aggregates a.1) (arms_outside (bound_arms_of as_)) (aggregates a.1) (arms_aggregates (bound_arms_of as_)) h.1 (arms_fit b as_ h.2))

  -- ---- an expression that is bound in a scope, and checked in a scope that is the same where it is of groups

  module _ (entries : List Entry) (scope checked : Scope) where
    abbrev Agrees : Bool → Type 0
    Agrees b = b ≡ true → checked ≡ scope

    never : Agrees false
    never e = absurd (true≢false (sym e))

    abbrev BoundFits : Bool → Result BoundExpr BindError → Type 0
    BoundFits b r = (x : BoundExpr) → r ≡ Ok x → FitsExpr b x

    it_fits : (b : Bool) (y : BoundExpr) → FitsExpr b y → BoundFits b (Ok y)
    it_fits b y h x e = subst (FitsExpr b) (ok_is y x e) h

    after : {X : Type 0} (b : Bool) (r : Result X BindError) (f : X → Result BoundExpr BindError) → ((y : X) → r ≡ Ok y → BoundFits b (f y)) → BoundFits b (and_then r f)
    after b r f h x e = let step = given f x r e in h step.0 step.1 x step.2

    key_if : (offset : ℕ) (b : Bool) → (if b then None else Some offset) ≡ None → b ≡ true
    key_if offset true e = refl
    key_if offset false e = absurd (some_is_not offset e)

    column_fits : (b : Bool) (c : ast.ColumnRef) (id : ColumnId) → Agrees b → misplaced_column group_by b c.offset (find_column entries checked c) ≡ None → find_column entries scope c ≡ Ok id → Fits b (id ∷ []) []
    column_fits false c id same e is = refl
    column_fits true c id same e is =
        let found : find_column entries checked c ≡ Ok id = ap (λ s. find_column entries s c) (same refl) ∙ is in
        let clear : misplaced_column group_by true c.offset (Ok id) ≡ None = subst (λ r. misplaced_column group_by true c.offset r ≡ None) found e in
        (the_one IsKey id (key_if c.offset (list_any (is_column id) group_by) clear), All-nil HasPlainArgument)

    count_fits : (b : Bool) (offset : ℕ) → misplaced_call b offset None ≡ None → Fits b [] (record { aggregate = Count; offset = offset; argument = None } ∷ [])
    count_fits false offset e = absurd (some_is_not offset (neither (Some offset) None e).0)
    count_fits true offset e = (All-nil IsKey, the_one HasPlainArgument (record { aggregate = Count; offset = offset; argument = None }) (All-nil IsPlain))

    call_fits : (b : Bool) (f : Aggregate) (offset : ℕ) (x : BoundExpr) (inner : Option ℕ) → misplaced_call b offset inner ≡ None → (inner ≡ None → aggregates x ≡ []) → Fits b [] (record { aggregate = f; offset = offset; argument = Some x } ∷ [])
    call_fits false f offset x inner e h = absurd (some_is_not offset (neither (Some offset) inner e).0)
    call_fits true f offset x inner e h = (All-nil IsKey, the_one HasPlainArgument (record { aggregate = f; offset = offset; argument = Some x }) (the_one IsPlain x (h e)))

    mutual
      expr_fits : (b : Bool) (e : ast.Expr) → Agrees b → misplaced entries checked group_by b e ≡ None → BoundFits b (bound_expr entries scope e)
      expr_fits b (ast.Column c) same clear = after b (find_column entries scope c) _ (λ id is. it_fits b (bound.Column id) (column_fits b c id same clear is))
      expr_fits b (ast.Literal d) same clear = it_fits b (bound.Literal d) (none_fit b)
      expr_fits b ast.CurrentUser same clear = it_fits b bound.CurrentUser (none_fit b)
      expr_fits b (ast.Negate n e) same clear = after b (bound_expr entries scope e) _ (λ x is. it_fits b (bound.Negate n x) (expr_fits b e same clear x is))
      expr_fits b (ast.Arithmetic op n e f) same clear =
          let parts = neither (misplaced entries checked group_by b e) (misplaced entries checked group_by b f) clear in
          after b (bound_expr entries scope e) _ (λ x is_x. after b (bound_expr entries scope f) _ (λ y is_y.
          it_fits b (bound.Arithmetic op n x y) (both_fit b (outside_aggregates x) (outside_aggregates y) (aggregates x) (aggregates y) (expr_fits b e same parts.0 x is_x) (expr_fits b f same parts.1 y is_y))))
      expr_fits b (ast.Comparison op n e f) same clear =
          let parts = neither (misplaced entries checked group_by b e) (misplaced entries checked group_by b f) clear in
          after b (bound_expr entries scope e) _ (λ x is_x. after b (bound_expr entries scope f) _ (λ y is_y.
          it_fits b (bound.Comparison op n x y) (both_fit b (outside_aggregates x) (outside_aggregates y) (aggregates x) (aggregates y) (expr_fits b e same parts.0 x is_x) (expr_fits b f same parts.1 y is_y))))
      expr_fits b (ast.Between negated n e low high) same clear =
          let parts = neither (misplaced entries checked group_by b e) (least_of (misplaced entries checked group_by b low) (misplaced entries checked group_by b high)) clear in
          let bounds = neither (misplaced entries checked group_by b low) (misplaced entries checked group_by b high) parts.1 in
          after b (bound_expr entries scope e) _ (λ x is_x. after b (bound_expr entries scope low) _ (λ y is_y. after b (bound_expr entries scope high) _ (λ z is_z.
          it_fits b (bound.Between negated n x y z)
          (both_fit b (outside_aggregates x) (outside_aggregates y ++ outside_aggregates z) (aggregates x) (aggregates y ++ aggregates z) (expr_fits b e same parts.0 x is_x)
          (both_fit b (outside_aggregates y) (outside_aggregates z) (aggregates y) (aggregates z) (expr_fits b low same bounds.0 y is_y) (expr_fits b high same bounds.1 z is_z))))))
      expr_fits b (ast.In negated n values e) same clear = after b (bound_expr entries scope e) _ (λ x is. it_fits b (bound.In negated n values x) (expr_fits b e same clear x is))
      expr_fits b (ast.IsNull negated n e) same clear = after b (bound_expr entries scope e) _ (λ x is. it_fits b (bound.IsNull negated n x) (expr_fits b e same clear x is))
      expr_fits b (ast.Not n e) same clear = after b (bound_expr entries scope e) _ (λ x is. it_fits b (bound.Not n x) (expr_fits b e same clear x is))
      expr_fits b (ast.And n ms) same clear = after b (bound_members entries scope ms) _ (λ xs is. it_fits b (bound.And n (bound_exprs_of xs)) (all_fit b xs (members_fit b ms xs same clear is)))
      expr_fits b (ast.Or n ms) same clear = after b (bound_members entries scope ms) _ (λ xs is. it_fits b (bound.Or n (bound_exprs_of xs)) (all_fit b xs (members_fit b ms xs same clear is)))
      expr_fits b (ast.Cast n to e) same clear = after b (bound_expr entries scope e) _ (λ x is. it_fits b (bound.Cast n to x) (expr_fits b e same clear x is))
      expr_fits b (ast.Case n as_ o) same clear =
          let parts = neither (misplaced_arms entries checked group_by b as_) (misplaced_otherwise entries checked group_by b o) clear in
          after b (bound_arms entries scope as_) _ (λ xs is_xs. after b (bound_otherwise entries scope o) _ (λ y is_y.
          it_fits b (bound.Case n (bound_arms_of xs) y)
          (both_fit b (arms_outside (bound_arms_of xs)) (otherwise_outside y) (arms_aggregates (bound_arms_of xs)) (otherwise_aggregates y) (arms_fit b xs (each_arm b as_ xs same parts.0 is_xs)) (otherwise_fits b o y same parts.1 is_y))))
      expr_fits b (ast.CountStar n) same clear = it_fits b (bound.CountStar n) (count_fits b n clear)
      expr_fits b (ast.Call f n e) same clear =
          after b (bound_expr entries scope e) _ (λ x is. it_fits b (bound.Call f n x) (call_fits b f n x (misplaced entries checked group_by false e) clear (λ inner. expr_fits false e never inner x is)))

      members_fit : (b : Bool) (ms : ast.Exprs) (xs : List BoundExpr) → Agrees b → misplaced_members entries checked group_by b ms ≡ None → bound_members entries scope ms ≡ Ok xs → EachFits b xs
      members_fit b ast.no_expr xs same clear e = subst (EachFits b) (ok_is [] xs e) tt
      members_fit b (ast.one_expr m ms) xs same clear e =
          let step = first_given (bound_expr entries scope m) (bound_members entries scope ms) xs e in
          let parts = neither (misplaced entries checked group_by b m) (misplaced_members entries checked group_by b ms) clear in
          subst (EachFits b) step.4 (expr_fits b m same parts.0 step.0 step.2, members_fit b ms step.1 same parts.1 step.3)

      each_arm : (b : Bool) (as_ : ast.Arms) (xs : List (BoundExpr × BoundExpr)) → Agrees b → misplaced_arms entries checked group_by b as_ ≡ None → bound_arms entries scope as_ ≡ Ok xs → ArmsFit b xs
      each_arm b ast.no_arm xs same clear e = subst (ArmsFit b) (ok_is [] xs e) tt
      each_arm b (ast.one_arm when result as_) xs same clear e =
          let step = first_given (pair (bound_expr entries scope when) (bound_expr entries scope result)) (bound_arms entries scope as_) xs e in
          let arm = pair_given (bound_expr entries scope when) (bound_expr entries scope result) step.0 step.2 in
          let parts = neither (least_of (misplaced entries checked group_by b when) (misplaced entries checked group_by b result)) (misplaced_arms entries checked group_by b as_) clear in
          let both = neither (misplaced entries checked group_by b when) (misplaced entries checked group_by b result) parts.0 in
          subst (ArmsFit b) (ap (λ (p : BoundExpr × BoundExpr). p ∷ step.1) arm.4 ∙ step.4)
          (expr_fits b when same both.0 arm.0 arm.2, expr_fits b result same both.1 arm.1 arm.3, each_arm b as_ step.1 same parts.1 step.3)

      otherwise_fits : (b : Bool) (o : ast.Otherwise) (y : BoundOtherwise) → Agrees b → misplaced_otherwise entries checked group_by b o ≡ None → bound_otherwise entries scope o ≡ Ok y → Fits b (otherwise_outside y) (otherwise_aggregates y)
      otherwise_fits b ast.Nothing y same clear e = subst (λ (y : BoundOtherwise). Fits b (otherwise_outside y) (otherwise_aggregates y)) (ok_is bound.Nothing y e) (none_fit b)
      otherwise_fits b (ast.Value e) y same clear h =
          let step = given (λ x. Ok (bound.Value x)) y (bound_expr entries scope e) h in
          subst (λ (y : BoundOtherwise). Fits b (otherwise_outside y) (otherwise_aggregates y)) (ok_is (bound.Value step.0) y step.2) (expr_fits b e same clear step.0 step.1)

  -- ---- conditions and items

  abbrev IsOfPlace : Bool → BoundExpr → Type 0
  IsOfPlace b x = (b ≡ true → IsOfGroups group_by x) × (b ≡ false → IsPlain x)

  of_place : (b : Bool) (x : BoundExpr) → FitsExpr b x → IsOfPlace b x
  of_place false x h = ((λ e. absurd (true≢false (sym e))), (λ e. h))
  of_place true x h = ((λ e. record { keys = h.0; arguments = h.1 }), (λ e. absurd (true≢false e)))

  module _ (entries : List Entry) where
    condition_fits : (scope : Scope) (b : Bool) (o : Option ast.Condition) (x : Option BoundExpr) → (b ≡ true → everywhere entries ≡ scope) → misplaced_condition entries group_by b o ≡ None → bound_condition entries scope o ≡ Ok x → All (FitsExpr b) (option_to_list x)
    condition_fits scope b None x same clear e = subst (λ (x : Option BoundExpr). All (FitsExpr b) (option_to_list x)) (ok_is None x e) (All-nil (FitsExpr b))
    condition_fits scope b (Some c) x same clear e =
        let step = given (λ y. Ok (Some y)) x (bound_expr entries scope c.predicate) e in
        subst (λ (x : Option BoundExpr). All (FitsExpr b) (option_to_list x)) (ok_is (Some step.0) x step.2)
        (the_one (FitsExpr b) step.0 (expr_fits entries scope (everywhere entries) b c.predicate same clear step.0 step.1))

    abbrev OnFits : Option BoundExpr → Type 0
    OnFits on = All (FitsExpr false) (option_to_list on)

    ons_fit : (n : ℕ) (more : List Entry) (ons : List (Option BoundExpr)) → least_of_all (map (λ e. misplaced_condition entries group_by false e.on) more) ≡ None → bound_ons entries n more ≡ Ok ons → All OnFits ons
    ons_fit n [] ons clear e = subst (λ (ons : List (Option BoundExpr)). All OnFits ons) (ok_is [] ons e) (All-nil OnFits)
    ons_fit n (y ∷ more) ons clear e =
        let step = first_given (bound_condition entries (on_scope n y) y.on) (bound_ons entries (n + 1) more) ons e in
        let parts = neither (misplaced_condition entries group_by false y.on) (least_of_all (map (λ (e : Entry). misplaced_condition entries group_by false e.on) more)) clear in
        subst (λ (ons : List (Option BoundExpr)). All OnFits ons) step.4
        (All-cons OnFits step.0 step.1 (condition_fits (on_scope n y) false y.on step.0 (λ e. absurd (true≢false (sym e))) parts.0 step.2) (ons_fit (n + 1) more step.1 parts.1 step.3))

    abbrev ItemFits : Bool → BoundItem → Type 0
    ItemFits b i = FitsExpr b i.value

    item_fits : (b : Bool) (i : ast.SelectItem) (x : BoundItem) → misplaced entries (everywhere entries) group_by b i.value ≡ None → bound_item entries (everywhere entries) i ≡ Ok x → ItemFits b x
    item_fits b i x clear e =
        let step = given (λ y. Ok record { heading = heading_or i.alias i.value; value = y }) x (bound_expr entries (everywhere entries) i.value) e in
        let made : BoundItem = record { heading = heading_or i.alias i.value; value = step.0 } in
        subst (ItemFits b) (ok_is made x step.2) (expr_fits entries (everywhere entries) (everywhere entries) b i.value (λ e. refl) clear step.0 step.1)

    items_fit : (b : Bool) (is : List ast.SelectItem) (xs : List BoundItem) → least_of_all (map (λ i. misplaced entries (everywhere entries) group_by b i.value) is) ≡ None → on_each (bound_item entries (everywhere entries)) is ≡ Ok xs → All (ItemFits b) xs
    items_fit b [] xs clear e = subst (λ (xs : List BoundItem). All (ItemFits b) xs) (ok_is [] xs e) (All-nil (ItemFits b))
    items_fit b (i ∷ more) xs clear e =
        let step = first_given (bound_item entries (everywhere entries) i) (on_each (bound_item entries (everywhere entries)) more) xs e in
        let parts = neither (misplaced entries (everywhere entries) group_by b i.value) (least_of_all (map (λ (i : ast.SelectItem). misplaced entries (everywhere entries) group_by b i.value) more)) clear in
        subst (λ (xs : List BoundItem). All (ItemFits b) xs) step.4 (All-cons (ItemFits b) step.0 step.1 (item_fits b i step.0 parts.0 step.2) (items_fit b more step.1 parts.1 step.3))

    -- all columns of all entries
    first_holds : (a b : Bool) → (a && b) ≡ true → (a ≡ true) × (b ≡ true)
    first_holds true b e = (refl, e)
    first_holds false b e = absurd (cc)

    each_key : (n k : ℕ) (cs : List Column) → are_grouped group_by n k cs ≡ true → All (ItemFits true) (column_items n k cs)
    each_key n k [] h = All-nil (ItemFits true)
    each_key n k (c ∷ cs) h =
        let id : ColumnId = record { entry = n; column = k } in
        let parts = first_holds (list_any (is_column id) group_by) (are_grouped group_by n (k + 1) cs) h in
        All-cons (ItemFits true) (record { heading = c.name; value = bound.Column id }) (column_items n (k + 1) cs) (the_one IsKey id parts.0, All-nil HasPlainArgument) (each_key n (k + 1) cs parts.1)

    every_key : (n : ℕ) (es : List Entry) → every_grouped group_by n es ≡ true → All (ItemFits true) (every_item n es)
    every_key n [] h = All-nil (ItemFits true)
    every_key n (e ∷ more) h =
        let parts = first_holds (are_grouped group_by n 0 e.table.columns) (every_grouped group_by (n + 1) more) h in
        All-append (ItemFits true) (column_items n 0 e.table.columns) (every_item (n + 1) more) (each_key n 0 e.table.columns parts.0) (every_key (n + 1) more parts.1)

    each_plain : (n k : ℕ) (cs : List Column) → All (ItemFits false) (column_items n k cs)
    each_plain n k [] = All-nil (ItemFits false)
    each_plain n k (c ∷ cs) = All-cons (ItemFits false) (record { heading = c.name; value = bound.Column (record { entry = n; column = k }) }) (column_items n (k + 1) cs) refl (each_plain n (k + 1) cs)

    every_plain : (n : ℕ) (es : List Entry) → All (ItemFits false) (every_item n es)
    every_plain n [] = All-nil (ItemFits false)
    every_plain n (e ∷ more) = All-append (ItemFits false) (column_items n 0 e.table.columns) (every_item (n + 1) more) (each_plain n 0 e.table.columns) (every_plain (n + 1) more)

    star_fits : (b grouped : Bool) (offset : ℕ) → every_grouped group_by 0 entries ≡ grouped → misplaced_star b grouped offset ≡ None → All (ItemFits b) (every_item 0 entries)
    star_fits false grouped offset is clear = every_plain 0 entries
    star_fits true true offset is clear = every_key 0 entries is
    star_fits true false offset is clear = absurd (some_is_not offset clear)

    select_fits : (b : Bool) (s : ast.SelectList) (xs : List BoundItem) → misplaced_select entries group_by b s ≡ None → bound_select entries (everywhere entries) s ≡ Ok xs → All (ItemFits b) xs
    select_fits b (ast.All offset) xs clear e =
        subst (λ (xs : List BoundItem). All (ItemFits b) xs) (ok_is (every_item 0 entries) xs e) (star_fits b (every_grouped group_by 0 entries) offset refl clear)
    select_fits b (ast.Items items) xs clear e = items_fit b items xs clear e

-- ---- a query that is not grouped

none_of : (a b : Bool) → (a || b) ≡ false → (a ≡ false) × (b ≡ false)
none_of true b e = absurd (true≢false e)
none_of false b e = (refl, e)

no_columns : (entries : List Entry) (cs : List ast.ColumnRef) (ids : List ColumnId) → not (is_empty cs) ≡ false → on_each (find_column entries (everywhere entries)) cs ≡ Ok ids → ids ≡ []
no_columns entries [] ids h e = sym (ok_is [] ids e)
no_columns entries (c ∷ cs) ids h e = absurd (true≢false h)

no_condition : (entries : List Entry) (o : Option ast.Condition) (x : Option BoundExpr) → is_some o ≡ false → bound_condition entries (everywhere entries) o ≡ Ok x → x ≡ None
no_condition entries None x h e = sym (ok_is None x e)
no_condition entries (Some c) x h e = absurd (true≢false h)

-- ---- the law

is_placed : (q : ast.Query) (b : Bound) → IsMade q b → IsPlaced b.query
is_placed q b made =
    let es = b.entries in
    let keys = b.query.group_by in
    let grouped = is_grouped es q in
    let is : grouped ≡ b.query.is_grouped = made.parts.grouped in
    let clear : misplaced_by es keys grouped q ≡ None = no_fault (misplaced_in es keys q) (mistyped_in es q) made.right in
    let ons = misplaced_ons es keys in
    let filter = misplaced_condition es keys false q.filter in
    let having = misplaced_condition es keys grouped q.having in
    let first = neither (misplaced_select es keys grouped q.select) (least_of ons (least_of filter having)) clear in
    let second = neither ons (least_of filter having) first.1 in
    let third = neither filter having second.1 in
    let items_are = select_fits keys es grouped q.select b.query.items first.0 made.parts.items in
    let having_is = condition_fits keys es (everywhere es) grouped q.having b.query.having (λ e. refl) third.1 made.parts.having in
    record {
      ons = ons_fit keys es 0 es b.query.ons second.0 made.parts.ons;
      filter = condition_fits keys es (everywhere es) false q.filter b.query.filter (λ e. refl) third.0 made.parts.filter;
      items = subst (λ g. All (λ (i : BoundItem). IsOfPlace keys g i.value) b.query.items) is (All-weaker (ItemFits keys es grouped) (λ (i : BoundItem). IsOfPlace keys grouped i.value) (λ i. of_place keys grouped i.value) b.query.items items_are);
      having = subst (λ g. All (IsOfPlace keys g) (option_to_list b.query.having)) is (All-weaker (FitsExpr keys grouped) (IsOfPlace keys grouped) (of_place keys grouped) (option_to_list b.query.having) having_is);
      ungrouped = λ not_grouped.
          let none = none_of (not (is_empty q.group_by)) (is_some q.having || is_some (misplaced_select es [] false q.select)) (is ∙ not_grouped) in
          let nor = none_of (is_some q.having) (is_some (misplaced_select es [] false q.select)) none.1 in
          (no_columns es q.group_by keys none.0 made.parts.group_by, no_condition es q.having b.query.having nor.0 made.parts.having);
    }

pub aggregates_are_placed : AggregatesArePlaced
aggregates_are_placed cat role text b e =
    let it = admitted_bound cat role text b e in
    is_placed it.0 b (is_made cat it.0 b it.1)
