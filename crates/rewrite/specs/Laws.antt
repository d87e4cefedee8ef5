-- Where the trails of a planner lead.
use Rattle.std.specs.Prelude.{◌≡◌, ◌≤◌, ℕ, true, List, ◌++◌, length, Ok}
use Rattle.value.specs.Limits.{most_conjuncts, most_entries}
use Rattle.expr.specs.BoundQuery.{BoundQuery}
use Rattle.expr.specs.Codes.{Code}
use Rattle.expr.specs.Conjuncts.{movable_conjuncts}
use Rattle.tuples.specs.Guards.{Guard}
use Rattle.row_terms.specs.Written.{written, filters, all_joins}
use Rattle.algebra.specs.Keeping.{MeanSame}
use Rattle.algebra.specs.PlanningList.{planning_list, remaining_lefts, HasLeftsInOrder}
use Rattle.trailcheck.specs.Admissible.{is_admissible}
use Rattle.trailcheck.specs.Settings.{Setting}
use Rattle.trailcheck.specs.Shapes.{shape}
use Rattle.trailcheck.specs.Verdicts.{verdict}
use Rattle.trailcheck.specs.declared.verdict.Verdict.TheVariants.{Accepted}
use Rattle.rewrite.specs.Trails.{led}
use Rattle.rewrite.specs.Listing.{simplifying}
use Rattle.rewrite.specs.Placing.{placing}

-- the first steps lead from the written term to the planning list over the joins and left joins in the order of FROM
abbrev pub SimplifiesEach : Type 0
SimplifiesEach = (frame : List Guard) (q : BoundQuery) → HasLeftsInOrder q → led frame (simplifying q) (written (length q.ons) q) ≡ Ok (filters (planning_list q) (all_joins (length q.ons) (remaining_lefts q)))

-- and those that place them lead from there to the shape, of every admissible code
abbrev pub PlacesEach : Type 0
PlacesEach = (at : Setting) (code : Code) → is_admissible at code ≡ true → led at.frame (placing at code) (filters at.conditions (all_joins (length at.frame) at.lefts)) ≡ Ok (shape at code)

-- a setting of the entries of a query, with what the query is planned with
pub record IsSettingOf (q : BoundQuery) (at : Setting) : Type 0 where
  pub entries : length at.frame ≡ length q.ons
  pub conditions : at.conditions ≡ planning_list q
  pub lefts : at.lefts ≡ remaining_lefts q
  pub order : HasLeftsInOrder q

-- so the shape of an admissible code means the bag of the written term, in every content
abbrev pub ShapesMeanSame : Type 0
ShapesMeanSame = (at : Setting) (q : BoundQuery) (code : Code) → IsSettingOf q at → is_admissible at code ≡ true → MeanSame at.frame (written (length at.frame) q) (shape at code)

-- the checker accepts both together, of a query within the limits
abbrev pub PlansAreAccepted : Type 0
PlansAreAccepted =
    (at : Setting) (q : BoundQuery) (code : Code) → IsSettingOf q at → length at.frame ≤ most_entries → length (movable_conjuncts q) ≤ most_conjuncts → is_admissible at code ≡ true
    → verdict at (written (length at.frame) q) (simplifying q ++ placing at code) code ≡ Accepted

-- the most steps of both together
abbrev pub most_plan_steps : ℕ
most_plan_steps = 5505

-- both together are no more, of such a query
abbrev pub PlansAreShort : Type 0
PlansAreShort =
    (at : Setting) (q : BoundQuery) (code : Code) → IsSettingOf q at → length at.frame ≤ most_entries → length (movable_conjuncts q) ≤ most_conjuncts → is_admissible at code ≡ true
    → length (simplifying q ++ placing at code) ≤ most_plan_steps
