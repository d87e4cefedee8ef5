-- The bag that a step keeps.
use Rattle.std.specs.Prelude.{◌≡◌, Bool, true, ◌&&◌, List, map, Ok}
use Rattle.std.specs.List.Sorted.{IsPermutation}
use Rattle.expr.specs.Movable.{movable}
use Rattle.tuples.specs.Guards.{Guard}
use Rattle.tuples.specs.World.{World}
use Rattle.row_terms.specs.Terms.{Term, Raw, Guarded, Filtered, Joined, LeftJoined, Empty}
use Rattle.row_terms.specs.Means.{mean}
use Rattle.algebra.specs.Steps.{Step}
use Rattle.algebra.specs.Rewrites.{applied}

-- no condition of the term can fault
abbrev pub is_movable_term : Term → Bool
is_movable_term (Raw entry) = true
is_movable_term (Guarded entry x) = is_movable_term x
is_movable_term (Filtered e x) = movable e && is_movable_term x
is_movable_term (Joined x y) = is_movable_term x && is_movable_term y
is_movable_term (LeftJoined on x y) = movable on && (is_movable_term x && is_movable_term y)
is_movable_term (Empty entries) = true

-- the world's tables have these guards
abbrev pub HasFrame : World → List Guard → Type 0
HasFrame w frame = map (λ t. t.guard) w.tables ≡ frame

-- in every content of the tables both terms mean one bag of combinations
abbrev pub MeanSame : List Guard → Term → Term → Type 0
MeanSame frame x y = (w : World) → HasFrame w frame → IsPermutation (mean w x) (mean w y)

-- a step keeps the bag
abbrev pub StepsKeep : Type 0
StepsKeep = (frame : List Guard) (step : Step) (x y : Term) → is_movable_term x ≡ true → applied frame step x ≡ Ok y → (is_movable_term y ≡ true) × MeanSame frame x y
