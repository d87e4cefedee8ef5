-- Conditions joined by AND and OR, and taken apart.
use Rattle.std.specs.Prelude.{Option, Some, None, option_map, if◌then◌else◌}
use Rattle.expr.specs.Bound.{BoundExpr, And, Or, BoundExprs, no_expr, one_expr}
use Rattle.predicates.specs.Inward.{before, and_members, or_before}
use Rattle.predicates.specs.Same.{same}

-- ---- AND and OR

-- the AND of a list; a list of one is its member
abbrev pub and_of : BoundExprs → BoundExpr
and_of (one_expr e no_expr) = e
and_of es = And 0 es

-- the OR of a list; a list of one is its member
abbrev pub or_of : BoundExprs → BoundExpr
or_of (one_expr e no_expr) = e
or_of es = Or 0 es

-- one AND of two conditions, in which an AND is its members
abbrev pub both : BoundExpr → BoundExpr → BoundExpr
both e f = and_of (before (and_members e) (and_members f))

-- the first of two or more members, and the AND of the others
abbrev pub first_and_rest : BoundExprs → Option (BoundExpr × BoundExpr)
first_and_rest (one_expr e (one_expr f es)) = Some (e, and_of (one_expr f es))
first_and_rest _ = None

-- the first member of an AND of two or more, and the AND of the others
abbrev pub parted : BoundExpr → Option (BoundExpr × BoundExpr)
parted (And offset es) = first_and_rest es
parted _ = None

-- ---- the OR of ANDs with one first member

-- the rest, where the first member is a
abbrev pub rest_after : BoundExpr → Option (BoundExpr × BoundExpr) → Option BoundExpr
rest_after a (Some (b, rest)) = if same a b then Some rest else None
rest_after a None = None

abbrev pub or_rest : Option BoundExpr → Option BoundExprs → Option BoundExprs
or_rest (Some rest) rests = option_map (or_before rest) rests
or_rest None rests = None

-- the rests of members that each are an AND with the first member a; an OR among the rests is its members
abbrev pub rests_after : BoundExpr → BoundExprs → Option BoundExprs
rests_after a no_expr = Some no_expr
rests_after a (one_expr m ms) = or_rest (rest_after a (parted m)) (rests_after a ms)

-- a AND the OR of the rests
abbrev pub with_first : BoundExpr → BoundExprs → Option BoundExpr
with_first a ms = option_map (λ rests. both a (or_of rests)) (rests_after a ms)

abbrev pub by_first : Option (BoundExpr × BoundExpr) → BoundExprs → Option BoundExpr
by_first (Some (a, rest)) ms = with_first a ms
by_first None ms = None

abbrev pub factored_of : BoundExprs → Option BoundExpr
factored_of no_expr = None
factored_of (one_expr m ms) = by_first (parted m) (one_expr m ms)

-- of an OR of ANDs that have one first member: that member AND the OR of the rests
abbrev pub factored : BoundExpr → Option BoundExpr
factored (Or offset ms) = factored_of ms
factored _ = None
