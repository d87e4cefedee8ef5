-- A bound query's aggregates have the offsets of those of its text.
use Rattle.std.proofs.Common.{◌≡◌, ℕ, ◌+◌, List, [], ◌∷◌, ◌++◌, Option, Some, None, Result, Ok, refl, sym, ap, subst, ◌∙◌, append_assoc}
use Rattle.std.specs.Prelude.{option_to_list}
use Rattle.std.specs.List.{flat_map}
use Rattle.std.proofs.lemmas.Grind.{flat_map-append}
use Rattle.std.proofs.lemmas.List.{append-nil, map-append}
use Rattle.memory.specs.Results.{and_then, on_each}
use Rattle.memory.proofs.Cases.{ok_is}
use Rattle.value.specs.Columns.{Column}
use Rattle.row_ast.specs.Ast as ast
use Rattle.expr.specs.Aggregates.{AggregateCall, aggregates, all_aggregates, arms_aggregates, otherwise_aggregates}
use Rattle.expr.specs.Bound as bound
use Rattle.expr.specs.Bound.{BoundExpr, BoundOtherwise, bound_arms_of, bound_exprs_of}
use Rattle.expr.specs.BoundQuery.{BoundItem}
use Rattle.scope.specs.declared.error.BindError.{BindError}
use Rattle.scope.specs.declared.lookup.Scope.{Scope}
use Rattle.scope.specs.Entry.{Entry}
use Rattle.scope.specs.Lookup.{everywhere, find_column}
use Rattle.scope.specs.BoundExprs.{bound_arms, bound_expr, bound_members, bound_otherwise, pair}
use Rattle.resolve.specs.BoundQueries.{bound_condition, bound_item, bound_select, column_items, every_item, heading_or}
use Rattle.scope.proofs.Found.{first_given, pair_given}
use Rattle.resolve.proofs.EntryTables.{given}
use Rattle.report.specs.QueryStages.{item_aggregates}
use Rattle.query_laws.proofs.Parts.{is_made}
use Rattle.group_laws.specs.Calls.{all_call_offsets, arms_call_offsets, call_offsets, condition_call_offsets, item_call_offsets, otherwise_call_offsets, select_call_offsets}
use Rattle.group_laws.specs.Offsets.{BindingKeepsOffsets, offsets_of}

-- ---- the offsets of parts

abbrev offsets_in : BoundExpr → List ℕ
offsets_in x = offsets_of (aggregates x)

both : (calls more : List AggregateCall) (m n : List ℕ) → offsets_of calls ≡ m → offsets_of more ≡ n → offsets_of (calls ++ more) ≡ m ++ n
both calls more m n h k = map-append (λ (c : AggregateCall). c.offset) calls more ∙ ap (λ l. l ++ offsets_of more) h ∙ ap (λ l. m ++ l) k

of_members : (xs : List BoundExpr) → offsets_of (all_aggregates (bound_exprs_of xs)) ≡ flat_map offsets_in xs
of_members [] = refl
of_members (x ∷ xs) = both (aggregates x) (all_aggregates (bound_exprs_of xs)) (offsets_in x) (flat_map offsets_in xs) refl (of_members xs)

abbrev arm_offsets : BoundExpr × BoundExpr → List ℕ
arm_offsets a = offsets_in a.0 ++ offsets_in a.1

of_arms : (as_ : List (BoundExpr × BoundExpr)) → offsets_of (arms_aggregates (bound_arms_of as_)) ≡ flat_map arm_offsets as_
of_arms [] = refl
of_arms (a ∷ as_) =
    both (aggregates a.0) (aggregates a.1 ++ arms_aggregates (bound_arms_of as_)) (offsets_in a.0) (offsets_in a.1 ++ flat_map arm_offsets as_) refl
    (both (aggregates a.1) (arms_aggregates (bound_arms_of as_)) (offsets_in a.1) (flat_map arm_offsets as_) refl (of_arms as_))
    ∙ sym (append_assoc (offsets_in a.0) (offsets_in a.1) (flat_map arm_offsets as_))

-- ---- expressions

module _ (entries : List Entry) (scope : Scope) where
  -- what is bound has these offsets
  abbrev Has : List ℕ → Result BoundExpr BindError → Type 0
  Has ns r = (x : BoundExpr) → r ≡ Ok x → offsets_in x ≡ ns

  it_has : (ns : List ℕ) (y : BoundExpr) → offsets_in y ≡ ns → Has ns (Ok y)
  it_has ns y h x e = subst (λ (x : BoundExpr). offsets_in x ≡ ns) (ok_is y x e) h

  after : {X : Type 0} (ns : List ℕ) (r : Result X BindError) (f : X → Result BoundExpr BindError) → ((y : X) → r ≡ Ok y → Has ns (f y)) → Has ns (and_then r f)
  after ns r f h x e = let step = given f x r e in h step.0 step.1 x step.2

  mutual
    expr_has : (e : ast.Expr) → Has (call_offsets e) (bound_expr entries scope e)
    expr_has (ast.Column c) = after [] (find_column entries scope c) _ (λ id is. it_has [] (bound.Column id) refl)
    expr_has (ast.Literal d) = it_has [] (bound.Literal d) refl
    expr_has ast.CurrentUser = it_has [] bound.CurrentUser refl
    expr_has (ast.Negate n e) = after (call_offsets e) (bound_expr entries scope e) _ (λ x is. it_has (call_offsets e) (bound.Negate n x) (expr_has e x is))
    expr_has (ast.Arithmetic op n e f) =
        let ns = call_offsets e ++ call_offsets f in
        after ns (bound_expr entries scope e) _ (λ x is_x. after ns (bound_expr entries scope f) _ (λ y is_y.
        it_has ns (bound.Arithmetic op n x y) (both (aggregates x) (aggregates y) (call_offsets e) (call_offsets f) (expr_has e x is_x) (expr_has f y is_y))))
    expr_has (ast.Comparison op n e f) =
        let ns = call_offsets e ++ call_offsets f in
        after ns (bound_expr entries scope e) _ (λ x is_x. after ns (bound_expr entries scope f) _ (λ y is_y.
        it_has ns (bound.Comparison op n x y) (both (aggregates x) (aggregates y) (call_offsets e) (call_offsets f) (expr_has e x is_x) (expr_has f y is_y))))
    expr_has (ast.Between negated n e low high) =
        let bounds = call_offsets low ++ call_offsets high in
        let ns = call_offsets e ++ bounds in
        after ns (bound_expr entries scope e) _ (λ x is_x. after ns (bound_expr entries scope low) _ (λ y is_y. after ns (bound_expr entries scope high) _ (λ z is_z.
        it_has ns (bound.Between negated n x y z)
        (both (aggregates x) (aggregates y ++ aggregates z) (call_offsets e) bounds (expr_has e x is_x)
        (both (aggregates y) (aggregates z) (call_offsets low) (call_offsets high) (expr_has low y is_y) (expr_has high z is_z))))))
    expr_has (ast.In negated n values e) = after (call_offsets e) (bound_expr entries scope e) _ (λ x is. it_has (call_offsets e) (bound.In negated n values x) (expr_has e x is))
    expr_has (ast.IsNull negated n e) = after (call_offsets e) (bound_expr entries scope e) _ (λ x is. it_has (call_offsets e) (bound.IsNull negated n x) (expr_has e x is))
    expr_has (ast.Not n e) = after (call_offsets e) (bound_expr entries scope e) _ (λ x is. it_has (call_offsets e) (bound.Not n x) (expr_has e x is))
    expr_has (ast.And n ms) = after (all_call_offsets ms) (bound_members entries scope ms) _ (λ xs is. it_has (all_call_offsets ms) (bound.And n (bound_exprs_of xs)) (of_members xs ∙ members_have ms xs is))
    expr_has (ast.Or n ms) = after (all_call_offsets ms) (bound_members entries scope ms) _ (λ xs is. it_has (all_call_offsets ms) (bound.Or n (bound_exprs_of xs)) (of_members xs ∙ members_have ms xs is))
    expr_has (ast.Cast n to e) = after (call_offsets e) (bound_expr entries scope e) _ (λ x is. it_has (call_offsets e) (bound.Cast n to x) (expr_has e x is))
    expr_has (ast.Case n as_ o) =
        let ns = arms_call_offsets as_ ++ otherwise_call_offsets o in
        after ns (bound_arms entries scope as_) _ (λ xs is_xs. after ns (bound_otherwise entries scope o) _ (λ y is_y.
        it_has ns (bound.Case n (bound_arms_of xs) y)
        (both (arms_aggregates (bound_arms_of xs)) (otherwise_aggregates y) (arms_call_offsets as_) (otherwise_call_offsets o) (of_arms xs ∙ arms_have as_ xs is_xs) (otherwise_has o y is_y))))
    expr_has (ast.CountStar n) = it_has (n ∷ []) (bound.CountStar n) refl
    expr_has (ast.Call f n e) = after (n ∷ []) (bound_expr entries scope e) _ (λ x is. it_has (n ∷ []) (bound.Call f n x) refl)

    members_have : (ms : ast.Exprs) (xs : List BoundExpr) → bound_members entries scope ms ≡ Ok xs → flat_map offsets_in xs ≡ all_call_offsets ms
    members_have ast.no_expr xs e = ap (λ (l : List BoundExpr). flat_map offsets_in l) (sym (ok_is [] xs e))
    members_have (ast.one_expr m ms) xs e =
        let step = first_given (bound_expr entries scope m) (bound_members entries scope ms) xs e in
        sym (ap (λ (l : List BoundExpr). flat_map offsets_in l) step.4) ∙ ap (λ l. l ++ flat_map offsets_in step.1) (expr_has m step.0 step.2) ∙ ap (λ l. call_offsets m ++ l) (members_have ms step.1 step.3)

    arms_have : (as_ : ast.Arms) (xs : List (BoundExpr × BoundExpr)) → bound_arms entries scope as_ ≡ Ok xs → flat_map arm_offsets xs ≡ arms_call_offsets as_
    arms_have ast.no_arm xs e = ap (λ (l : List (BoundExpr × BoundExpr)). flat_map arm_offsets l) (sym (ok_is [] xs e))
    arms_have (ast.one_arm when result as_) xs e =
        let step = first_given (pair (bound_expr entries scope when) (bound_expr entries scope result)) (bound_arms entries scope as_) xs e in
        let arm = pair_given (bound_expr entries scope when) (bound_expr entries scope result) step.0 step.2 in
        let now = call_offsets when ++ call_offsets result in
        let here : arm_offsets step.0 ≡ now =
        subst (λ (p : BoundExpr × BoundExpr). arm_offsets p ≡ now) arm.4 (ap (λ l. l ++ offsets_in arm.1) (expr_has when arm.0 arm.2) ∙ ap (λ l. call_offsets when ++ l) (expr_has result arm.1 arm.3)) in
        sym (ap (λ (l : List (BoundExpr × BoundExpr)). flat_map arm_offsets l) step.4)
        ∙ ap (λ l. l ++ flat_map arm_offsets step.1) here ∙ ap (λ l. now ++ l) (arms_have as_ step.1 step.3)
        ∙ append_assoc (call_offsets when) (call_offsets result) (arms_call_offsets as_)

    otherwise_has : (o : ast.Otherwise) (y : BoundOtherwise) → bound_otherwise entries scope o ≡ Ok y → offsets_of (otherwise_aggregates y) ≡ otherwise_call_offsets o
    otherwise_has ast.Nothing y e = subst (λ (y : BoundOtherwise). offsets_of (otherwise_aggregates y) ≡ []) (ok_is bound.Nothing y e) refl
    otherwise_has (ast.Value e) y h =
        let step = given (λ x. Ok (bound.Value x)) y (bound_expr entries scope e) h in
        subst (λ (y : BoundOtherwise). offsets_of (otherwise_aggregates y) ≡ call_offsets e) (ok_is (bound.Value step.0) y step.2) (expr_has e step.0 step.1)

  -- ---- conditions and items

  condition_has : (o : Option ast.Condition) (x : Option BoundExpr) → bound_condition entries scope o ≡ Ok x → offsets_of (flat_map aggregates (option_to_list x)) ≡ condition_call_offsets o
  condition_has None x e = subst (λ (x : Option BoundExpr). offsets_of (flat_map aggregates (option_to_list x)) ≡ []) (ok_is None x e) refl
  condition_has (Some c) x e =
      let step = given (λ y. Ok (Some y)) x (bound_expr entries scope c.predicate) e in
      subst (λ (x : Option BoundExpr). offsets_of (flat_map aggregates (option_to_list x)) ≡ call_offsets c.predicate) (ok_is (Some step.0) x step.2)
      (ap offsets_of (append-nil (aggregates step.0)) ∙ expr_has c.predicate step.0 step.1)

  abbrev item_offsets : BoundItem → List ℕ
  item_offsets i = offsets_in i.value

  item_has : (i : ast.SelectItem) (x : BoundItem) → bound_item entries scope i ≡ Ok x → item_offsets x ≡ item_call_offsets i
  item_has i x e =
      let step = given (λ y. Ok record { heading = heading_or i.alias i.value; value = y }) x (bound_expr entries scope i.value) e in
      let made : BoundItem = record { heading = heading_or i.alias i.value; value = step.0 } in
      subst (λ (x : BoundItem). item_offsets x ≡ item_call_offsets i) (ok_is made x step.2) (expr_has i.value step.0 step.1)

  items_have : (is : List ast.SelectItem) (xs : List BoundItem) → on_each (bound_item entries scope) is ≡ Ok xs → flat_map item_offsets xs ≡ flat_map item_call_offsets is
  items_have [] xs e = ap (λ (l : List BoundItem). flat_map item_offsets l) (sym (ok_is [] xs e))
  items_have (i ∷ more) xs e =
      let step = first_given (bound_item entries scope i) (on_each (bound_item entries scope) more) xs e in
      sym (ap (λ (l : List BoundItem). flat_map item_offsets l) step.4) ∙ ap (λ l. l ++ flat_map item_offsets step.1) (item_has i step.0 step.2) ∙ ap (λ l. item_call_offsets i ++ l) (items_have more step.1 step.3)

  of_items : (xs : List BoundItem) → offsets_of (flat_map item_aggregates xs) ≡ flat_map item_offsets xs
  of_items [] = refl
  of_items (x ∷ xs) = both (item_aggregates x) (flat_map item_aggregates xs) (item_offsets x) (flat_map item_offsets xs) refl (of_items xs)

  -- columns have none
  of_columns : (n k : ℕ) (cs : List Column) → flat_map item_aggregates (column_items n k cs) ≡ []
  of_columns n k [] = refl
  of_columns n k (c ∷ cs) = of_columns n (k + 1) cs

  of_every : (n : ℕ) (es : List Entry) → flat_map item_aggregates (every_item n es) ≡ []
  of_every n [] = refl
  of_every n (e ∷ more) =
      flat_map-append item_aggregates (column_items n 0 e.table.columns) (every_item (n + 1) more)
      ∙ ap (λ l. l ++ flat_map item_aggregates (every_item (n + 1) more)) (of_columns n 0 e.table.columns) ∙ of_every (n + 1) more

  select_has : (s : ast.SelectList) (xs : List BoundItem) → bound_select entries scope s ≡ Ok xs → offsets_of (flat_map item_aggregates xs) ≡ select_call_offsets s
  select_has (ast.All n) xs e = subst (λ (xs : List BoundItem). offsets_of (flat_map item_aggregates xs) ≡ []) (ok_is (every_item 0 entries) xs e) (ap offsets_of (of_every 0 entries))
  select_has (ast.Items items) xs e = of_items xs ∙ items_have items xs e

-- ---- the query

pub binding_keeps_offsets : BindingKeepsOffsets
binding_keeps_offsets cat q b e =
    let parts = (is_made cat q b e).parts in
    let es = b.entries in
    both (flat_map item_aggregates b.query.items) (flat_map aggregates (option_to_list b.query.having)) (select_call_offsets q.select) (condition_call_offsets q.having)
    (select_has es (everywhere es) q.select b.query.items parts.items) (condition_has es (everywhere es) q.having b.query.having parts.having)
