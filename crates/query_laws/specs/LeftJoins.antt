-- The left joins of a query that is bound.
use Rattle.std.specs.Prelude.{◌≡◌, ◌<◌, ◌≤◌, ◌+◌, ◌-◌, ℕ, true, length, Some, Ok}
use Rattle.std.specs.List.{All, slice_get}
use Rattle.row_ast.specs.Ast as ast
use Rattle.expr.specs.Bound.{BoundExpr}
use Rattle.expr.specs.Columns.{columns}
use Rattle.expr.specs.Conjuncts.{left_ons}
use Rattle.expr.specs.Movable.{movable}
use Rattle.catalog_laws.specs.Catalog.{Catalog}
use Rattle.analysis.specs.Resolved.{Bound, bound}

pub record HasLeftJoins (b : Bound) : Type 0 where
  -- an ON, or none, for each entry
  pub ons : length b.query.ons ≡ length b.entries
  -- an entry comes before those of left joins
  pub inner : b.query.left_count < length b.entries
  -- each of these has an ON
  pub as_many : length (left_ons b.query) ≡ b.query.left_count
  -- that cannot fault
  pub movable : All (λ on. movable on ≡ true) (left_ons b.query)
  -- and that names columns of its entry and of those before it
  pub reach : (k : ℕ) (on : BoundExpr) → slice_get (left_ons b.query) k ≡ Some on → All (λ id. id.entry ≤ length b.entries - b.query.left_count + k) (columns on)

abbrev pub LeftJoinsAreBound : Type 0
LeftJoinsAreBound = (cat : Catalog) (q : ast.Query) (b : Bound) → 0 < length q.from → bound cat q ≡ Ok b → HasLeftJoins b
