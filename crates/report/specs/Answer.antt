-- The answer of a query over the combinations that pass its movable conjuncts.
use Rattle.std.specs.Prelude.{Bool, true, false, List, Result, Ok}
use Rattle.value.specs.Datum.{Row}
use Rattle.value.specs.declared.faults.Fault.{Fault}
use Rattle.value.specs.Names.{Name}
use Rattle.eval.specs.Meaning.{◌>>=◌}
use Rattle.expr.specs.BoundQuery.{BoundQuery}
use Rattle.expr.specs.Conjuncts.{left_ons, movable_conjuncts}
use Rattle.tuples.specs.Combinations.{Combination, passing}
use Rattle.tuples.specs.LeftCombinations.{left_combinations}
use Rattle.report.specs.Ordered.{ordered}
use Rattle.report.specs.QueryStages.{where_stage, items_stage, rows_of_groups}

module _ (role : Name) (q : BoundQuery) where
  -- of groups, or of each combination by itself
  abbrev pub rows_of : Bool → List Combination → Result (List Row) Fault
  rows_of true these = rows_of_groups role q these
  rows_of false these = items_stage role q these

  abbrev pub in_order : List Row → Result (List Row) Fault
  in_order rows = Ok (ordered q.order_by q.limit rows)

  abbrev pub rows_of_kept : List Combination → Result (List Row) Fault
  rows_of_kept these = rows_of q.is_grouped these >>= in_order

  -- the rows of the answer, or the least fault of the first stage that has one
  abbrev pub answer : List Combination → Result (List Row) Fault
  answer these = where_stage role q these >>= rows_of_kept

  -- the answer over these rows of each entry
  abbrev pub answer_over : List (List Row) → Result (List Row) Fault
  answer_over tables = answer (passing role (movable_conjuncts q) (left_combinations role (left_ons q) tables))
