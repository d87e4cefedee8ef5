-- Which conditions have a text that is read back.
use Rattle.std.specs.Prelude.{◌≡◌, ℕ, List, Ok}
use Rattle.std.specs.List.{All}
use Rattle.std.specs.Str.{IsUtf8}
use Rattle.value.specs.Names.{Name}
use Rattle.expr.specs.BoundQuery.{BoundQuery}
use Rattle.expr.specs.Conjuncts.{movable_conjuncts}
use Rattle.row_terms.specs.Written.{left_conditions}
use Rattle.algebra.specs.PlanningList.{planning_list}
use Rattle.scope.specs.Entry.{Entry}
use Rattle.catalog.specs.Catalog.{Catalog}
use Rattle.catalog_laws.specs.WellFormed.{IsWellFormed}
use Rattle.resolve.specs.Resolved.{Bound}
use Rattle.analysis.specs.Analysis.{admitted}
use Rattle.plan_laws.specs.Names.{AreNames}
use Rattle.plan_laws.specs.Said.{IsSaid}

-- where the movable conjuncts of a query and the ONs of its left joined entries have such a text, its planning list has
abbrev pub PlanningListsAreSaid : Type 0
PlanningListsAreSaid = (entries : List Entry) (q : BoundQuery) → All (IsSaid entries) (movable_conjuncts q) → All (IsSaid entries) (left_conditions q) → All (IsSaid entries) (planning_list q)

-- the movable conjuncts of an admitted query have one
abbrev pub AdmittedAreSaid : Type 0
AdmittedAreSaid = (cat : Catalog) (role : Name) (text : List ℕ) (b : Bound) → IsWellFormed cat → AreNames cat → IsUtf8 text → admitted cat role text ≡ Ok b → All (IsSaid b.entries) (movable_conjuncts b.query)

-- so do the ONs of its left joined entries
abbrev pub AdmittedLeftsAreSaid : Type 0
AdmittedLeftsAreSaid = (cat : Catalog) (role : Name) (text : List ℕ) (b : Bound) → IsWellFormed cat → AreNames cat → IsUtf8 text → admitted cat role text ≡ Ok b → All (IsSaid b.entries) (left_conditions b.query)
