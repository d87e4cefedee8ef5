-- The steps from the written term of a query to the conditions of its planning list over the joins in the order of FROM.
use Rattle.std.specs.Prelude.{ℕ, List, [], ◌++◌, map, if◌then◌else◌}
use Rattle.expr.specs.Bound.{BoundExpr}
use Rattle.expr.specs.BoundQuery.{BoundQuery}
use Rattle.row_terms.specs.Written.{left_conditions}
use Rattle.algebra.specs.PlanningList.{written_conditions, simplified, simplified_parts, turned, with_consequences, is_too_long, entries_before_lefts}
use Rattle.algebra.specs.Steps.{Step}
use Rattle.rewrite.specs.Simplifying.{simplifying_each, parting_each, adding_all, dropping}
use Rattle.rewrite.specs.Turning.{turning_all}

-- from the conditions to their parts, to these and those of the ONs of entries that become inner, from a number on
abbrev pub turning_parts : (first : ℕ) → (written ons : List BoundExpr) → List Step
turning_parts first written ons = simplifying_each written ++ (parting_each (map simplified written) ++ turning_all first (simplified_parts written) ons)

-- from conditions to those of them and of their consequences that repeat none
abbrev pub completing : List BoundExpr → List Step
completing es = adding_all es 0 es es ++ dropping [] (with_consequences es)

-- none where the conditions are too many
abbrev pub simplifying_from : (first : ℕ) → (written ons : List BoundExpr) → List Step
simplifying_from first written ons =
    let es = (turned first (simplified_parts written) ons).conditions in
    if is_too_long es then []
    else if is_too_long (with_consequences es) then []
    else turning_parts first written ons ++ completing es

abbrev pub simplifying : BoundQuery → List Step
simplifying q = simplifying_from (entries_before_lefts q) (written_conditions q) (left_conditions q)
