-- The values of the aggregates of an admitted query on its groups.
use Rattle.std.specs.Prelude.{◌≡◌, ℕ, List, map, All, Ok}
use Rattle.value.specs.Names.{Name}
use Rattle.expr.specs.Aggregates.{AggregateCall}
use Rattle.expr.specs.BoundQuery.{BoundQuery}
use Rattle.tuples.specs.Combinations.{Combination, joined_cells}
use Rattle.groups.specs.Aggregates.{aggregate_of}
use Rattle.groups.specs.ClassValues.{argument_values, class_of}
use Rattle.groups.specs.GroupRow.{GroupRow}
use Rattle.groups.specs.Members.{Member}
use Rattle.report.specs.QueryStages.{arguments_stage, cells_of_group, query_aggregates, sums_stage}
use Rattle.catalog.specs.Catalog.{Catalog}
use Rattle.resolve.specs.Resolved.{Bound}
use Rattle.analysis.specs.Analysis.{admitted}

-- the value of an aggregate on a group is that of its argument's values on the combinations of the class: those with the
-- group's key, or all without GROUP BY
abbrev pub HasItsValue : Name → BoundQuery → List Combination → GroupRow → AggregateCall → Type 0
HasItsValue role q these g call =
    aggregate_of call.aggregate call.offset (argument_values role call.argument (class_of q.group_by g.key (map joined_cells these))) ≡ Ok ((cells_of_group q g).aggregate call.offset)

-- so has each aggregate of an admitted query on each group that stages arguments and sums make of combinations
abbrev pub AggregatesHaveValues : Type 0
AggregatesHaveValues = (cat : Catalog) (role : Name) (text : List ℕ) (b : Bound) (these : List Combination) (members : List Member) (groups : List GroupRow) →
    admitted cat role text ≡ Ok b → arguments_stage role b.query these ≡ Ok members → sums_stage role b.query members ≡ Ok groups →
    All (λ g. All (HasItsValue role b.query these g) (query_aggregates b.query)) groups
