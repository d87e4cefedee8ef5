-- The conjuncts of a query.
use Rattle.std.specs.Prelude.{◌-◌, Bool, true, false, not, List, [], ◌∷◌, ◌++◌, length, filter, take, drop, Option, Some, None, option_to_list}
use Rattle.std.specs.List.{flat_map}
use Rattle.expr.specs.Bound as bound
use Rattle.expr.specs.Bound.{BoundExpr, BoundExprs}
use Rattle.expr.specs.Movable.{movable}
use Rattle.expr.specs.BoundQuery.{BoundQuery}

abbrev pub members : BoundExprs → List BoundExpr
members bound.no_expr = []
members (bound.one_expr e es) = e ∷ members es

-- the members of an AND, in written order; all else is its own one conjunct
abbrev pub conjuncts_of : BoundExpr → List BoundExpr
conjuncts_of (bound.And offset es) = members es
conjuncts_of e = e ∷ []

abbrev pub conjuncts_in : Option BoundExpr → List BoundExpr
conjuncts_in None = []
conjuncts_in (Some e) = conjuncts_of e

-- the ON of each entry that is not left joined
abbrev pub inner_ons : BoundQuery → List (Option BoundExpr)
inner_ons q = take (length q.ons - q.left_count) q.ons

-- the ONs of the left joined entries, in FROM order
abbrev pub left_ons : BoundQuery → List BoundExpr
left_ons q = flat_map option_to_list (drop (length q.ons - q.left_count) q.ons)

-- of each ON in the order of FROM, those of left joins left out, and then of WHERE
abbrev pub conjuncts : BoundQuery → List BoundExpr
conjuncts q = flat_map conjuncts_in (inner_ons q) ++ conjuncts_in q.filter

-- it may fault
abbrev pub fragile : BoundExpr → Bool
fragile e = not (movable e)

-- it cannot fault, or it may, as the part has it
abbrev pub is_in_part : Bool → BoundExpr → Bool
is_in_part true e = movable e
is_in_part false e = fragile e

-- the conjuncts that cannot fault, in written order
abbrev pub movable_conjuncts : BoundQuery → List BoundExpr
movable_conjuncts q = filter movable (conjuncts q)

-- the conjuncts that may fault, in written order
abbrev pub fragile_conjuncts : BoundQuery → List BoundExpr
fragile_conjuncts q = filter fragile (conjuncts q)
