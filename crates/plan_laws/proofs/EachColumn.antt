-- What holds of each column that a query names holds of those of its movable conjuncts, and of the ONs of its left joined entries.
use Rattle.std.proofs.Common.{ℕ, zero, suc, ◌-◌, Bool, true, false, List, [], ◌∷◌, ◌++◌, length, take, drop, filter, Option, Some, None, cond}
use Rattle.std.specs.Prelude.{option_to_list}
use Rattle.std.specs.List.{AllByRecursion, flat_map}
use Rattle.expr.specs.declared.bound.ColumnId.{ColumnId}
use Rattle.expr.specs.Bound.{BoundExpr, BoundExprs, And, no_expr, one_expr}
use Rattle.expr.specs.BoundQuery.{BoundQuery}
use Rattle.expr.specs.Columns.{all_columns, columns}
use Rattle.expr.specs.Conjuncts.{conjuncts, conjuncts_in, conjuncts_of, inner_ons, left_ons, members, movable_conjuncts}
use Rattle.expr.specs.Movable.{movable}
use Rattle.expr.specs.NamedColumns.{condition_columns, item_columns, named_columns}

-- ---- facts of each of two lists

module _ {X : Type 0} (P : X → Type 0) where
  pub left_of : (xs ys : List X) → AllByRecursion P (xs ++ ys) → AllByRecursion P xs
  left_of [] ys h = tt
  left_of (x ∷ xs) ys h = (h.0, left_of xs ys h.1)

  pub right_of : (xs ys : List X) → AllByRecursion P (xs ++ ys) → AllByRecursion P ys
  right_of [] ys h = h
  right_of (x ∷ xs) ys h = right_of xs ys h.1

  pub of_both : (xs ys : List X) → AllByRecursion P xs → AllByRecursion P ys → AllByRecursion P (xs ++ ys)
  of_both [] ys h k = k
  of_both (x ∷ xs) ys h k = (h.0, of_both xs ys h.1 k)

  left_by : (p : X → Bool) (xs : List X) → AllByRecursion P xs → AllByRecursion P (filter p xs)
  left_by p [] h = tt
  left_by p (x ∷ xs) h = go (p x) (left_by p xs h.1)
    where
      go : (b : Bool) → AllByRecursion P (filter p xs) → AllByRecursion P (cond b (x ∷ filter p xs) (filter p xs))
      go true k = (h.0, k)
      go false k = k

-- ---- conjuncts

module _ (Q : ColumnId → Type 0) where
  -- Q holds of each column of the expression
  abbrev pub OfColumns : BoundExpr → Type 0
  OfColumns e = AllByRecursion Q (columns e)

  of_members : (es : BoundExprs) → AllByRecursion Q (all_columns es) → AllByRecursion OfColumns (members es)
  of_members no_expr h = tt
  of_members (one_expr e es) h = (left_of Q (columns e) (all_columns es) h, of_members es (right_of Q (columns e) (all_columns es) h))

  of_condition : (e : BoundExpr) → OfColumns e → AllByRecursion OfColumns (conjuncts_of e)
  of_condition (And offset es) h = of_members es h
  of_condition _ h = (h, tt)

  of_optional : (o : Option BoundExpr) → AllByRecursion Q (condition_columns o) → AllByRecursion OfColumns (conjuncts_in o)
  of_optional None h = tt
  of_optional (Some e) h = of_condition e h

  -- of the first ONs
  of_ons : (n : ℕ) (ons : List (Option BoundExpr)) → AllByRecursion Q (flat_map condition_columns ons) → AllByRecursion OfColumns (flat_map conjuncts_in (take n ons))
  of_ons zero ons h = tt
  of_ons (suc n) [] h = tt
  of_ons (suc n) (o ∷ ons) h =
      of_both OfColumns (conjuncts_in o) (flat_map conjuncts_in (take n ons)) (of_optional o (left_of Q (condition_columns o) (flat_map condition_columns ons) h))
      (of_ons n ons (right_of Q (condition_columns o) (flat_map condition_columns ons) h))

  -- of those after the first ones
  of_last_ons : (n : ℕ) (ons : List (Option BoundExpr)) → AllByRecursion Q (flat_map condition_columns ons) → AllByRecursion OfColumns (flat_map option_to_list (drop n ons))
  of_last_ons zero [] h = tt
  of_last_ons zero (None ∷ ons) h = of_last_ons zero ons h
  of_last_ons zero (Some e ∷ ons) h = (left_of Q (columns e) (flat_map condition_columns ons) h, of_last_ons zero ons (right_of Q (columns e) (flat_map condition_columns ons) h))
  of_last_ons (suc n) [] h = tt
  of_last_ons (suc n) (o ∷ ons) h = of_last_ons n ons (right_of Q (condition_columns o) (flat_map condition_columns ons) h)

  pub of_lefts : (q : BoundQuery) → AllByRecursion Q (named_columns q) → AllByRecursion OfColumns (filter movable (left_ons q))
  of_lefts q h =
      let conditions : List ColumnId = flat_map condition_columns q.ons ++ condition_columns q.filter in
      let rest : List ColumnId = q.group_by ++ condition_columns q.having in
      let after = right_of Q (flat_map item_columns q.items) (conditions ++ rest) h in
      let mine = left_of Q conditions rest after in
      left_by OfColumns movable (left_ons q) (of_last_ons (length q.ons - q.left_count) q.ons (left_of Q (flat_map condition_columns q.ons) (condition_columns q.filter) mine))

  pub of_conjuncts : (q : BoundQuery) → AllByRecursion Q (named_columns q) → AllByRecursion OfColumns (movable_conjuncts q)
  of_conjuncts q h =
      let conditions : List ColumnId = flat_map condition_columns q.ons ++ condition_columns q.filter in
      let rest : List ColumnId = q.group_by ++ condition_columns q.having in
      let after = right_of Q (flat_map item_columns q.items) (conditions ++ rest) h in
      let mine = left_of Q conditions rest after in
      left_by OfColumns movable (conjuncts q)
      (of_both OfColumns (flat_map conjuncts_in (inner_ons q)) (conjuncts_in q.filter) (of_ons (length q.ons - q.left_count) q.ons (left_of Q (flat_map condition_columns q.ons) (condition_columns q.filter) mine))
      (of_optional q.filter (right_of Q (flat_map condition_columns q.ons) (condition_columns q.filter) mine)))
