-- The parts of an admitted query have types by the rules.
use Rattle.std.proofs.Common.{◌≡◌, ℕ, ◌+◌, Bool, true, false, List, [], ◌∷◌, ◌++◌, map, Option, Some, None, Ok, Err, refl, subst}
use Rattle.std.specs.Prelude.{option_to_list}
use Rattle.std.specs.List.{All}
use Rattle.std.proofs.lemmas.List.Elements.{All-append, All-cons, All-nil}
use Rattle.memory.specs.Results.{on_each}
use Rattle.memory.proofs.Cases.{ok_is}
use Rattle.value.specs.Columns.{Column}
use Rattle.value.specs.declared.types.ColType.TheVariants.{Boolean}
use Rattle.row_ast.specs.Ast as ast
use Rattle.expr.specs.declared.bound.ColumnId.{ColumnId}
use Rattle.expr.specs.Bound as bound
use Rattle.expr.specs.Bound.{BoundExpr}
use Rattle.expr.specs.BoundQuery.{BoundItem}
use Rattle.scope.specs.declared.lookup.Scope.{Scope}
use Rattle.scope.specs.Entry.{Entry}
use Rattle.scope.specs.Lookup.{everywhere, on_scope}
use Rattle.scope.specs.BoundExprs.{bound_expr}
use Rattle.expr.specs.Offsets.{least_of, least_of_all}
use Rattle.typing.specs.Clauses.{first_fault, misplaced_in, mistyped, mistyped_condition, mistyped_in, mistyped_ons, mistyped_select}
use Rattle.typing.specs.Typing.{TypeOf, Typed, column_type, fits, type_if, typed, typed_condition}
use Rattle.type_laws.proofs.Admitted.{types_by_rules}
use Rattle.type_laws.proofs.Fitting.{fits_by_test}
use Rattle.analysis.specs.BoundQueries.{bound_condition, bound_item, bound_ons, bound_select, column_items, every_item, heading_or}
use Rattle.analysis.specs.Resolved.{Bound}
use Rattle.scope.proofs.Found.{first_given}
use Rattle.analysis.proofs.EntryTables.{given}
use Rattle.query_laws.specs.Typed.{AdmittedAreTyped, HasSomeType, IsCondition, IsTyped}
use Rattle.query_laws.proofs.Found.{the_one}
use Rattle.query_laws.proofs.Parts.{IsMade, admitted_bound, is_made}
use Rattle.query_laws.proofs.Placed.{neither}

no_fault : (a b : Option ℕ) → first_fault a b ≡ None → b ≡ None
no_fault (Some offset) b e = absurd (cc)
no_fault None None e = refl
no_fault None (Some offset) e = absurd (cc)

well_typed : (r : Typed) → mistyped r ≡ None → (t : TypeOf) × (r ≡ Ok t)
well_typed (Ok t) e = (t, refl)
well_typed (Err offset) e = absurd (cc)

passes : (offset : ℕ) (b : Bool) (t u : TypeOf) → type_if offset b t ≡ Ok u → b ≡ true
passes offset true t u e = refl
passes offset false t u e = absurd (cc)

module _ (entries : List Entry) where
  expr_typed : (scope : Scope) (e : ast.Expr) (x : BoundExpr) → mistyped (typed entries scope e) ≡ None → bound_expr entries scope e ≡ Ok x → HasSomeType entries x
  expr_typed scope e x clear is =
      let it = well_typed (typed entries scope e) clear in
      (it.0, types_by_rules entries scope e it.0 x it.1 is)

  condition_typed : (scope : Scope) (offset : ℕ) (e : ast.Expr) (x : BoundExpr) → mistyped (typed_condition entries scope offset e) ≡ None → bound_expr entries scope e ≡ Ok x → IsCondition entries x
  condition_typed scope offset e x clear is =
      let it = well_typed (typed_condition entries scope offset e) clear in
      let step = given (λ t. type_if offset (fits Boolean t) t) it.0 (typed entries scope e) it.1 in
      (step.0, types_by_rules entries scope e step.0 x step.1 is, fits_by_test Boolean step.0 (passes offset (fits Boolean step.0) step.0 it.0 step.2))

  abbrev AreConditions : Option BoundExpr → Type 0
  AreConditions x = All (IsCondition entries) (option_to_list x)

  some_typed : (scope : Scope) (o : Option ast.Condition) (x : Option BoundExpr) → mistyped_condition entries scope o ≡ None → bound_condition entries scope o ≡ Ok x → AreConditions x
  some_typed scope None x clear e = subst AreConditions (ok_is None x e) (All-nil (IsCondition entries))
  some_typed scope (Some c) x clear e =
      let step = given (λ y. Ok (Some y)) x (bound_expr entries scope c.predicate) e in
      subst AreConditions (ok_is (Some step.0) x step.2) (the_one (IsCondition entries) step.0 (condition_typed scope c.offset c.predicate step.0 clear step.1))

  ons_typed : (n : ℕ) (more : List Entry) (ons : List (Option BoundExpr)) → mistyped_ons entries n more ≡ None → bound_ons entries n more ≡ Ok ons → All AreConditions ons
  ons_typed n [] ons clear e = subst (λ (ons : List (Option BoundExpr)). All AreConditions ons) (ok_is [] ons e) (All-nil AreConditions)
  ons_typed n (y ∷ more) ons clear e =
      let step = first_given (bound_condition entries (on_scope n y) y.on) (bound_ons entries (n + 1) more) ons e in
      let parts = neither (mistyped_condition entries (on_scope n y) y.on) (mistyped_ons entries (n + 1) more) clear in
      subst (λ (ons : List (Option BoundExpr)). All AreConditions ons) step.4 (All-cons AreConditions step.0 step.1 (some_typed (on_scope n y) y.on step.0 parts.0 step.2) (ons_typed (n + 1) more step.1 parts.1 step.3))

  -- ---- items

  abbrev IsTypedItem : BoundItem → Type 0
  IsTypedItem i = HasSomeType entries i.value

  item_typed : (i : ast.SelectItem) (x : BoundItem) → mistyped (typed entries (everywhere entries) i.value) ≡ None → bound_item entries (everywhere entries) i ≡ Ok x → IsTypedItem x
  item_typed i x clear e =
      let step = given (λ y. Ok record { heading = heading_or i.alias i.value; value = y }) x (bound_expr entries (everywhere entries) i.value) e in
      let made : BoundItem = record { heading = heading_or i.alias i.value; value = step.0 } in
      subst IsTypedItem (ok_is made x step.2) (expr_typed (everywhere entries) i.value step.0 clear step.1)

  items_typed : (is : List ast.SelectItem) (xs : List BoundItem) → least_of_all (map (λ i. mistyped (typed entries (everywhere entries) i.value)) is) ≡ None → on_each (bound_item entries (everywhere entries)) is ≡ Ok xs → All IsTypedItem xs
  items_typed [] xs clear e = subst (λ (xs : List BoundItem). All IsTypedItem xs) (ok_is [] xs e) (All-nil IsTypedItem)
  items_typed (i ∷ more) xs clear e =
      let step = first_given (bound_item entries (everywhere entries) i) (on_each (bound_item entries (everywhere entries)) more) xs e in
      let parts = neither (mistyped (typed entries (everywhere entries) i.value)) (least_of_all (map (λ i. mistyped (typed entries (everywhere entries) i.value)) more)) clear in
      subst (λ (xs : List BoundItem). All IsTypedItem xs) step.4 (All-cons IsTypedItem step.0 step.1 (item_typed i step.0 parts.0 step.2) (items_typed more step.1 parts.1 step.3))

  -- a column has the type of its column
  each_column : (n k : ℕ) (cs : List Column) → All IsTypedItem (column_items n k cs)
  each_column n k [] = All-nil IsTypedItem
  each_column n k (c ∷ cs) =
      let id : ColumnId = record { entry = n; column = k } in
      All-cons IsTypedItem (record { heading = c.name; value = bound.Column id }) (column_items n (k + 1) cs) (column_type entries id, refl) (each_column n (k + 1) cs)

  every_column : (n : ℕ) (es : List Entry) → All IsTypedItem (every_item n es)
  every_column n [] = All-nil IsTypedItem
  every_column n (e ∷ more) = All-append IsTypedItem (column_items n 0 e.table.columns) (every_item (n + 1) more) (each_column n 0 e.table.columns) (every_column (n + 1) more)

  select_typed : (s : ast.SelectList) (xs : List BoundItem) → mistyped_select entries s ≡ None → bound_select entries (everywhere entries) s ≡ Ok xs → All IsTypedItem xs
  select_typed (ast.All offset) xs clear e = subst (λ (xs : List BoundItem). All IsTypedItem xs) (ok_is (every_item 0 entries) xs e) (every_column 0 entries)
  select_typed (ast.Items items) xs clear e = items_typed items xs clear e

-- ---- the law

is_typed : (q : ast.Query) (b : Bound) → IsMade q b → IsTyped b.entries b.query
is_typed q b made =
    let es = b.entries in
    let clear : mistyped_in es q ≡ None = no_fault (misplaced_in es b.query.group_by q) (mistyped_in es q) made.right in
    let ons = mistyped_ons es 0 es in
    let filter = mistyped_condition es (everywhere es) q.filter in
    let having = mistyped_condition es (everywhere es) q.having in
    let first = neither (mistyped_select es q.select) (least_of ons (least_of filter having)) clear in
    let second = neither ons (least_of filter having) first.1 in
    let third = neither filter having second.1 in
    record {
      items = select_typed es q.select b.query.items first.0 made.parts.items;
      ons = ons_typed es 0 es b.query.ons second.0 made.parts.ons;
      filter = some_typed es (everywhere es) q.filter b.query.filter third.0 made.parts.filter;
      having = some_typed es (everywhere es) q.having b.query.having third.1 made.parts.having;
    }

pub admitted_are_typed : AdmittedAreTyped
admitted_are_typed cat role text b e =
    let it = admitted_bound cat role text b e in
    is_typed it.0 b (is_made cat it.0 b it.1)
