-- The column of a last sort is the wanted one, which the query names.
use Rattle.std.proofs.Common.{◌≡◌, refl, subst, ℕ, zero, suc, Bool, true, false, List, [], ◌∷◌, ◌++◌, Option, Some, None, if◌then◌else◌}
use Rattle.std.specs.List.{AllByRecursion, flat_map, slice_get}
use Rattle.expr.specs.declared.bound.ColumnId.{ColumnId}
use Rattle.expr.specs.declared.query.OutputKey.{OutputKey}
use Rattle.expr.specs.Bound.{BoundExpr, Column}
use Rattle.expr.specs.BoundQuery.{BoundItem, BoundQuery}
use Rattle.expr.specs.Codes.{Code, Empty, Steps}
use Rattle.expr.specs.Columns.{columns}
use Rattle.expr.specs.NamedColumns.{condition_columns, item_columns, named_columns}
use Rattle.plan_laws.proofs.EachColumn.{left_of, right_of}
use Rattle.code_costs.specs.Best.{Problem}
use Rattle.joins.specs.Orders.{Order, is_ordered_by, steps_order}
use Rattle.trailcheck.specs.Shapes.{inner_steps}
use Rattle.planning.specs.LastSort.{last_sort, unless_ordered}
use Rattle.planning.specs.Wanted.{first_column_or, first_key_column, item_column, plain_column, wanted_column}

unless_wanted : (order : Order) (wanted : Option ColumnId) (id : ColumnId) → unless_ordered order wanted ≡ Some id → wanted ≡ Some id
unless_wanted order None id h = absurd (cc)
unless_wanted order (Some w) id h = go (is_ordered_by order w) h
  where
    go : (b : Bool) → (if b then None else Some w) ≡ Some id → Some w ≡ Some id
    go true h = absurd (cc)
    go false h = h

pub last_is_wanted : (p : Problem) (code : Code) (id : ColumnId) → last_sort p code ≡ Some id → p.wanted ≡ Some id
last_is_wanted p Empty id h = absurd (cc)
last_is_wanted p (Steps ss) id h = unless_wanted (steps_order p.setting.conditions (inner_steps p.setting ss)) p.wanted id h

module _ (Q : ColumnId → Type 0) where
  of_item : (items : List BoundItem) (k : ℕ) (i : BoundItem) → AllByRecursion Q (flat_map item_columns items) → slice_get items k ≡ Some i → AllByRecursion Q (columns i.value)
  of_item [] k i h g = absurd (cc)
  of_item (x ∷ xs) zero i h g = let same : x ≡ i = cc in subst (λ (y : BoundItem). AllByRecursion Q (columns y.value)) same (left_of Q (item_columns x) (flat_map item_columns xs) h)
  of_item (x ∷ xs) (suc k) i h g = of_item xs k i (right_of Q (item_columns x) (flat_map item_columns xs) h) g

  of_plain : (e : BoundExpr) (id : ColumnId) → plain_column e ≡ Some id → AllByRecursion Q (columns e) → Q id
  of_plain (Column c) id g h = let same : c ≡ id = cc in subst Q same h.0
  of_plain _ id g h = absurd (cc)

  of_key : (items : List BoundItem) (keys : List OutputKey) (id : ColumnId) → AllByRecursion Q (flat_map item_columns items) → first_key_column items keys ≡ Some id → Q id
  of_key items [] id h g = absurd (cc)
  of_key items (key ∷ keys) id h g = go key.descending g
    where
      found : (o : Option BoundItem) → slice_get items key.index ≡ o → item_column o ≡ Some id → Q id
      found None is g = absurd (cc)
      found (Some i) is g = of_plain i.value id g (of_item items key.index i h is)

      go : (b : Bool) → (if b then None else item_column (slice_get items key.index)) ≡ Some id → Q id
      go true g = absurd (cc)
      go false g = found (slice_get items key.index) refl g

  of_wanted : (other : Option ColumnId) (group_by : List ColumnId) (id : ColumnId) → AllByRecursion Q group_by → (other ≡ Some id → Q id) → first_column_or other group_by ≡ Some id → Q id
  of_wanted other [] id h k g = k g
  of_wanted other (c ∷ cs) id h k g = let same : c ≡ id = cc in subst Q same h.0

  pub wanted_named : (q : BoundQuery) (id : ColumnId) → wanted_column q ≡ Some id → AllByRecursion Q (named_columns q) → Q id
  wanted_named q id g h =
      let conditions : List ColumnId = flat_map condition_columns q.ons ++ condition_columns q.filter in
      let rest : List ColumnId = q.group_by ++ condition_columns q.having in
      let after = right_of Q (flat_map item_columns q.items) (conditions ++ rest) h in
      of_wanted (first_key_column q.items q.order_by) q.group_by id (left_of Q q.group_by (condition_columns q.having) (right_of Q conditions rest after))
      (of_key q.items q.order_by id (left_of Q (flat_map item_columns q.items) (conditions ++ rest) h)) g
