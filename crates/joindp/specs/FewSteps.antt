-- The steps after a set of placed entries that can be in a least code: for each step that may follow there is one among these that
-- leads where it does, and costs less, or as much with numbers that are no later.
use Rattle.std.specs.Prelude.{ℕ, Bool, true, List, [], ◌∷◌, ◌++◌, filter, length, Option, Some, None, if◌then◌else◌}
use Rattle.std.specs.List.{flat_map, range_with_len}
use Rattle.std.specs.Ordering.{is_lt, nat_cmp, ordering_then}
use Rattle.std.specs.Cmp.Lexicographic.{slice_cmp}
use Rattle.expr.specs.declared.bound.ColumnId.{ColumnId}
use Rattle.expr.specs.declared.code.Access.{Access}
use Rattle.expr.specs.declared.code.Method.{Method}
use Rattle.expr.specs.declared.code.Method.TheVariants.{Nested, Hash, Merge}
use Rattle.expr.specs.declared.code.CodeStep.{CodeStep}
use Rattle.expr.specs.Codes.{step_numbers}
use Rattle.stats.specs.Card.{Entries}
use Rattle.joins.specs.Orders.{is_ordered_by, order_of, sides}
use Rattle.code_costs.specs.Best.{Problem, estimates}
use Rattle.code_costs.specs.Cost.{access_cost}
use Rattle.joindp.specs.Following.{accesses, all_numbers, is_equality, may_be_next, step_of}
use Rattle.trailcheck.specs.Settings.{inner_count}

-- the rows come in the order of the column, if one is given
abbrev pub comes_by : (entry : ℕ) → (column : Option ColumnId) → Access → Bool
comes_by entry None access = true
comes_by entry (Some id) access = is_ordered_by (order_of entry access) id

-- the numbers of a way to read rows, among others that are the same of all
abbrev pub reading_numbers : Access → List ℕ
reading_numbers access = step_numbers (step_of 0 access Nested)

-- the join by the first of these equalities
abbrev pub hashes : (entry : ℕ) → (cheapest : Access) → (numbers : List ℕ) → List CodeStep
hashes entry cheapest [] = []
hashes entry cheapest (k ∷ ks) = step_of entry cheapest (Hash k) ∷ []

abbrev pub step_by : (entry : ℕ) → Method → Option Access → List CodeStep
step_by entry method None = []
step_by entry method (Some access) = step_of entry access method ∷ []

module _ (p : Problem) where
  module _ (entry : ℕ) where
    -- the one way to read the rows comes before the other: it costs less, or as much and its numbers come first
    abbrev pub is_before : (one other : Access) → Bool
    is_before one other =
        is_lt (ordering_then (nat_cmp (access_cost (estimates p) entry one) (access_cost (estimates p) entry other)) (slice_cmp nat_cmp (reading_numbers one) (reading_numbers other)))

    -- the lesser of the least way so far, if there is one, and one more
    abbrev pub lesser : Option Access → Access → Option Access
    lesser None access = Some access
    lesser (Some best) access = Some (if is_before access best then access else best)

    -- where that gives the rows in the order of the column, if one is given
    abbrev pub lesser_by : (column : Option ColumnId) → Option Access → Access → Option Access
    lesser_by column best access = if comes_by entry column access then lesser best access else best

    abbrev pub least_from : (column : Option ColumnId) → Option Access → List Access → Option Access
    least_from column best [] = best
    least_from column best (a ∷ xs) = least_from column (lesser_by column best a) xs

    -- the least of them that give the rows in the order of the column, if one is given
    abbrev pub least : (column : Option ColumnId) → List Access → Option Access
    least column xs = least_from column None xs

    -- unless the cheapest way gives the rows in the order of the own one of these columns, the least way that does
    abbrev pub ordered_by_own : List Access → (cheapest : Access) → Option (ColumnId × ColumnId) → Option Access
    ordered_by_own xs cheapest None = None
    ordered_by_own xs cheapest (Some (placed, own)) = if is_ordered_by (order_of entry cheapest) own then None else least (Some own) xs

    abbrev pub ordered_access : List Access → (cheapest : Access) → (number : ℕ) → Option Access
    ordered_access xs cheapest number = ordered_by_own xs cheapest (sides p.setting.conditions entry number)

    -- the merges on the equality of that number
    abbrev pub merges : List Access → (cheapest : Access) → (number : ℕ) → List CodeStep
    merges xs cheapest number = step_of entry cheapest (Merge number) ∷ step_by entry (Merge number) (ordered_access xs cheapest number)

    abbrev pub few_with : List Access → (numbers : List ℕ) → Option Access → List CodeStep
    few_with xs numbers None = []
    few_with xs numbers (Some cheapest) = step_of entry cheapest Nested ∷ (hashes entry cheapest numbers ++ flat_map (merges xs cheapest) numbers)

    -- the steps to the entry, of those ways to read its rows and those equalities that join it
    abbrev pub few_of : List Access → (numbers : List ℕ) → List CodeStep
    few_of xs numbers = few_with xs numbers (least None xs)

  abbrev pub few_steps_to : Entries → (entry : ℕ) → List CodeStep
  few_steps_to placed entry = few_of entry (accesses p.setting entry) (filter (is_equality p.setting placed entry) (all_numbers p.setting))

  abbrev pub few_steps : Entries → List CodeStep
  few_steps placed = flat_map (few_steps_to placed) (filter (may_be_next p.setting placed) (range_with_len 0 (inner_count p.setting)))
