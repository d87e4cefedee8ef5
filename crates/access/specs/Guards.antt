-- The expression that decides the rows of a table that a role sees.
use Rattle.std.specs.Prelude.{List, [], ◌∷◌, map, filter, if◌then◌else◌}
use Rattle.value.specs.Names.{Name}
use Rattle.expr.specs.Bound.{BoundExpr, And, Or, one_expr, bound_exprs_of}
use Rattle.row_objects.specs.Objects.{Policy, Table}
use Rattle.scope.specs.Entry.{Entry}
use Rattle.catalog.specs.Catalog.{Catalog}
use Rattle.access.specs.Access.{bypasses_policies, permits, restricts}
use Rattle.tuples.specs.Guards.{Guard, All, None, Expr}

abbrev pub predicates : List Policy → List BoundExpr
predicates policies = map (λ p. p.predicate) policies

-- one of the permissive policies, and all restrictive ones
abbrev pub combined : List Policy → List Policy → BoundExpr
combined permissive restrictive = And 0 (one_expr (Or 0 (bound_exprs_of (predicates permissive))) (bound_exprs_of (predicates restrictive)))

-- without a permissive policy no row
abbrev pub guard_by : List Policy → List Policy → Guard
guard_by [] restrictive = None
guard_by (p ∷ ps) restrictive = Expr (combined (p ∷ ps) restrictive)

-- of the policies that apply to the role, unless it bypasses them
abbrev pub guard : Catalog → Name → Table → Guard
guard cat r t = if bypasses_policies cat r t then All else guard_by (filter (permits cat r) t.policies) (filter (restricts cat r) t.policies)

-- the guard of each entry, in order
abbrev pub frame : Catalog → Name → List Entry → List Guard
frame cat r entries = map (λ e. guard cat r e.table) entries
