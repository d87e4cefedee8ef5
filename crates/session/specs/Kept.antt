-- What holds of the plans that are kept.
use Rattle.std.specs.Prelude.{◌≡◌, ◌≤◌, ℕ, List, Some, Ok, Contains, slice_get}
use Rattle.value.specs.Names.{Name}
use Rattle.engine.specs.Analysis.{admitted}
use Rattle.engine.specs.Resolved.{Bound}
use Rattle.engine.specs.Database.{Database}
use Rattle.engine.specs.Plans.{IsPlanFor, Plan}
use Rattle.shared_plans.specs.Recent.{Key}

-- the numbers of its key are at most the present ones, and where they are these, it is the plan of the key's role and text
abbrev pub IsKept : Database → ℕ → Key × Plan → Type 0
IsKept database loads e = (e.0.changes ≤ database.catalog.change_number) × (e.0.loads ≤ loads)
    × (e.0.changes ≡ database.catalog.change_number → e.0.loads ≡ loads → (b : Bound) → admitted database.catalog e.0.role e.0.text ≡ Ok b → IsPlanFor database e.0.role b e.1)

-- (opaque, so that a search carries it as one fact)
unfoldable pub AreKept : Database → ℕ → List (Key × Plan) → Type 0
AreKept database loads entries = (e : Key × Plan) → Contains entries e → IsKept database loads e

-- the plan that was last used is that of a role's bound query
abbrev pub IsReady : Database → Name → Bound → List (Key × Plan) → Type 0
IsReady database role b entries = (e : Key × Plan) × (slice_get entries 0 ≡ Some e) × IsPlanFor database role b e.1
