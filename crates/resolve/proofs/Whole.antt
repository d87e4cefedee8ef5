-- A query of its parts.
use Rattle.std.proofs.Common.{◌≡◌, ℕ, Bool, List, [], Option, Result, Ok, Err, refl, ap}
use Rattle.memory.specs.Gives.{Gives}
use Rattle.memory.specs.declared.failure.Failure.{Failure}
use Rattle.memory.specs.declared.failure.Failure.TheVariants as failure
use Rattle.row_ast.specs.Ast as ast
use Rattle.expr.specs.Bound.{BoundExpr}
use Rattle.expr.specs.declared.bound.ColumnId.{ColumnId}
use Rattle.scope.specs.declared.error.BindError.{BindError}
use Rattle.expr.specs.declared.query.OutputKey.{OutputKey}
use Rattle.scope.specs.declared.lookup.Scope.{Scope}
use Rattle.scope.specs.Entry.{Entry}
use Rattle.scope.specs.Lookup.{everywhere}
use Rattle.expr.specs.BoundQuery.{BoundItem, BoundQuery}
use Rattle.resolve.specs.BoundQueries.{bound_parts, bound_within, bound_query}

-- the scope is that of every entry
pub query_is : (entries : List Entry) (q : ast.Query) (scope : Scope) → scope ≡ everywhere entries → bound_within scope entries q ≡ bound_query entries q
query_is entries q scope r = ap (λ x. bound_within x entries q) r

module _ (grouped : Bool) (left_count : ℕ) (limit : Option ℕ) (items : Result (List BoundItem) BindError) (ons : Result (List (Option BoundExpr)) BindError) (filter : Result (Option BoundExpr) BindError) (group_by : Result (List ColumnId) BindError) (having : Result (Option BoundExpr) BindError) where
  pub items_failed : {X Z : Type 0} (v : X → List BoundItem) (w : Z → BoundQuery) (e : Failure BindError) → Gives v (Err e) items → Gives w (Err e) (bound_parts grouped left_count limit items ons filter group_by having)
  items_failed v w (failure.Error fault) h = rw h refl
  items_failed v w failure.OutOfMemory h = tt

  module _ (i : List BoundItem) (items_are : items ≡ Ok i) where
    pub ons_failed : {X Z : Type 0} (v : X → List (Option BoundExpr)) (w : Z → BoundQuery) (e : Failure BindError) → Gives v (Err e) ons → Gives w (Err e) (bound_parts grouped left_count limit items ons filter group_by having)
    ons_failed v w (failure.Error fault) h = rw (items_are, h) refl
    ons_failed v w failure.OutOfMemory h = tt

    module _ (o : List (Option BoundExpr)) (ons_are : ons ≡ Ok o) where
      pub filter_failed : {X Z : Type 0} (v : X → Option BoundExpr) (w : Z → BoundQuery) (e : Failure BindError) → Gives v (Err e) filter → Gives w (Err e) (bound_parts grouped left_count limit items ons filter group_by having)
      filter_failed v w (failure.Error fault) h = rw (items_are, ons_are, h) refl
      filter_failed v w failure.OutOfMemory h = tt

module _ (grouped : Bool) (left_count : ℕ) (limit : Option ℕ) (items : Result (List BoundItem) BindError) (ons : Result (List (Option BoundExpr)) BindError) (filter : Result (Option BoundExpr) BindError) (group_by : Result (List ColumnId) BindError) (having : Result (Option BoundExpr) BindError)
    (i : List BoundItem) (o : List (Option BoundExpr)) (f : Option BoundExpr) (items_are : items ≡ Ok i) (ons_are : ons ≡ Ok o) (filter_is : filter ≡ Ok f) where
  pub columns_failed : {X Z : Type 0} (v : X → List ColumnId) (w : Z → BoundQuery) (e : Failure BindError) → Gives v (Err e) group_by → Gives w (Err e) (bound_parts grouped left_count limit items ons filter group_by having)
  columns_failed v w (failure.Error fault) h = rw (items_are, ons_are, filter_is, h) refl
  columns_failed v w failure.OutOfMemory h = tt

  module _ (g : List ColumnId) (group_by_is : group_by ≡ Ok g) where
    pub having_failed : {X Z : Type 0} (v : X → Option BoundExpr) (w : Z → BoundQuery) (e : Failure BindError) → Gives v (Err e) having → Gives w (Err e) (bound_parts grouped left_count limit items ons filter group_by having)
    having_failed v w (failure.Error fault) h = rw (items_are, ons_are, filter_is, group_by_is, h) refl
    having_failed v w failure.OutOfMemory h = tt

    pub all_given : (h : Option BoundExpr) → having ≡ Ok h → (b : Bool) → b ≡ grouped → (n : ℕ) → n ≡ left_count → (keys : List OutputKey) → keys ≡ [] →
        bound_parts grouped left_count limit items ons filter group_by having ≡ Ok (record { items = i; ons = o; left_count = n; filter = f; group_by = g; having = h; is_grouped = b; order_by = keys; limit = limit })
    all_given h having_is b b_is n n_is keys keys_are = rw (items_are, ons_are, filter_is, group_by_is, having_is, b_is, n_is, keys_are) refl
