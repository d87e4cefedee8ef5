-- The term of a query as it is written.
use Rattle.std.specs.Prelude.{ℕ, zero, suc, ◌-◌, List, [], ◌∷◌, length, map, filter, Option, option_to_list}
use Rattle.expr.specs.Bound.{BoundExpr}
use Rattle.expr.specs.BoundQuery.{BoundQuery}
use Rattle.expr.specs.Movable.{movable}
use Rattle.expr.specs.Conjuncts.{left_ons, movable_conjuncts}
use Rattle.predicates.specs.Offsets.{without_offsets}
use Rattle.row_terms.specs.Terms.{Term, Raw, Guarded, Filtered, Joined, LeftJoined, Empty}

-- the rows of an entry that its guard shows
abbrev pub guarded_entry : ℕ → Term
guarded_entry entry = Guarded entry (Raw entry)

-- the first entries joined in the order of FROM
abbrev pub joins : ℕ → Term
joins zero = Empty []
joins (suc zero) = guarded_entry 0
joins (suc (suc n)) = Joined (joins (suc n)) (guarded_entry (suc n))

-- the entries from a number on left joined one after another, each by its condition
abbrev pub left_joins : (first : ℕ) → List BoundExpr → Term → Term
left_joins first [] x = x
left_joins first (on ∷ ons) x = left_joins (suc first) ons (LeftJoined on x (guarded_entry first))

-- one filter for each condition, the first innermost
abbrev pub filters : List BoundExpr → Term → Term
filters [] x = x
filters (e ∷ es) x = filters es (Filtered e x)

-- an ON without its offsets, if it is there and cannot fault
abbrev pub left_condition_in : Option BoundExpr → List BoundExpr
left_condition_in on = map without_offsets (filter movable (option_to_list on))

-- the ONs of the left joined entries that cannot fault, as none of an admitted query can
abbrev pub left_conditions : BoundQuery → List BoundExpr
left_conditions q = map without_offsets (filter movable (left_ons q))

-- so many entries, the first ones joined and those of the conditions left joined to them
abbrev pub all_joins : ℕ → List BoundExpr → Term
all_joins count lefts = left_joins (count - length lefts) lefts (joins (count - length lefts))

-- the joins of so many entries under the filters of the movable conjuncts
abbrev pub written : ℕ → BoundQuery → Term
written count q = filters (map without_offsets (movable_conjuncts q)) (all_joins count (left_conditions q))
