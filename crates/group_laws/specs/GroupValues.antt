-- The values of expressions on the groups of an admitted query over a well-formed database.
use Rattle.std.specs.Prelude.{◌≡◌, ℕ, All, Contains, List, Some, Ok, option_to_list}
use Rattle.value.specs.declared.types.ColType.TheVariants.{Boolean}
use Rattle.value.specs.Names.{Name}
use Rattle.expr.specs.Aggregates.{AggregateCall, aggregates}
use Rattle.expr.specs.Bound.{BoundExpr}
use Rattle.expr.specs.BoundQuery.{BoundQuery}
use Rattle.eval.specs.Meaning.{meaning}
use Rattle.typing.specs.Typing.{TypeOf}
use Rattle.type_laws.specs.Laws.{GivesType}
use Rattle.type_laws.specs.Rules.{IsOfType}
use Rattle.tuples.specs.Combinations.{Combination}
use Rattle.groups.specs.GroupRow.{GroupRow}
use Rattle.groups.specs.Members.{Member}
use Rattle.report.specs.QueryStages.{arguments_stage, cells_of_group, query_aggregates, sums_stage}
use Rattle.resolve.specs.Resolved.{Bound}
use Rattle.analysis.specs.Analysis.{admitted}
use Rattle.store.specs.Database.{Database}
use Rattle.catalog_laws.specs.WellFormedDatabase.{IsWellFormedDatabase}
use Rattle.query_laws.specs.Values.{IsCombination}

-- the groups that stages arguments and sums make of combinations of rows of the tables of an admitted query, over a
-- well-formed database
pub record AreGroups (database : Database) (role : Name) (text : List ℕ) (b : Bound) (groups : List GroupRow) : Type 0 where
  pub these : List Combination
  pub members : List Member
  pub well_formed : IsWellFormedDatabase database
  pub is_admitted : admitted database.catalog role text ≡ Ok b
  pub combinations : All (IsCombination database b.entries) these
  pub members_are : arguments_stage role b.query these ≡ Ok members
  pub groups_are : sums_stage role b.query members ≡ Ok groups

-- the aggregates of the expression are the query's
abbrev pub HasAggregatesOf : BoundQuery → BoundExpr → Type 0
HasAggregatesOf q x = (call : AggregateCall) → Contains (aggregates x) call → Contains (query_aggregates q) call

-- on each group the expression gives a value of the type, null or a fault
abbrev pub GivesOnGroups : Name → BoundQuery → List GroupRow → BoundExpr → TypeOf → Type 0
GivesOnGroups role q groups x t = All (λ g. GivesType t (meaning (cells_of_group q g) role x)) groups

-- an expression that has a type among the entries of the query, and whose aggregates are the query's, gives values of it
abbrev pub GroupValuesAreOfTypes : Type 0
GroupValuesAreOfTypes = (database : Database) (role : Name) (text : List ℕ) (b : Bound) (groups : List GroupRow) (x : BoundExpr) (t : TypeOf) → AreGroups database role text b groups →
    IsOfType b.entries x t → HasAggregatesOf b.query x → GivesOnGroups role b.query groups x t

-- so does each item, which has a type
abbrev pub GroupItemsAreOfTypes : Type 0
GroupItemsAreOfTypes = (database : Database) (role : Name) (text : List ℕ) (b : Bound) (groups : List GroupRow) → AreGroups database role text b groups →
    All (λ i. (t : TypeOf) × IsOfType b.entries i.value t × GivesOnGroups role b.query groups i.value t) b.query.items

-- HAVING gives truth values, null or faults
abbrev pub HavingIsCondition : Type 0
HavingIsCondition = (database : Database) (role : Name) (text : List ℕ) (b : Bound) (groups : List GroupRow) → AreGroups database role text b groups →
    All (λ e. GivesOnGroups role b.query groups e (Some Boolean)) (option_to_list b.query.having)
