-- What an accepted audit tells of a plan.
use Rattle.std.specs.Prelude.{◌≡◌, ℕ, List, map, Ok, IsPermutation}
use Rattle.value.specs.Names.{Name}
use Rattle.expr.specs.Codes.{Code}
use Rattle.expr.specs.Conjuncts.{left_ons, movable_conjuncts}
use Rattle.tuples.specs.Combinations.{Combination, passing}
use Rattle.tuples.specs.LeftCombinations.{left_combinations}
use Rattle.tuples.specs.World.{World, combination_at}
use Rattle.row_terms.specs.Means.{mean}
use Rattle.trailcheck.specs.Shapes.{shape}
use Rattle.trailcheck.specs.declared.verdict.Verdict.TheVariants.{Accepted}
use Rattle.report.specs.Answer as report
use Rattle.catalog.specs.Catalog.{Catalog}
use Rattle.catalog_laws.specs.WellFormed.{IsWellFormed}
use Rattle.resolve.specs.Resolved.{Bound}
use Rattle.plan_texts.specs.Plans.{Plan}
use Rattle.plan_texts.specs.Reading.{plan_at}
use Rattle.bound_plans.specs.Entries.{plan_entries}
use Rattle.bound_plans.specs.LeftJoins.{plain_code}
use Rattle.store.specs.Database.{Rows}
use Rattle.analysis.specs.Analysis.{admitted}
use Rattle.engine.specs.Answer.{answer, seen}
use Rattle.engine.specs.Audits.{Judged, audit}
use Rattle.engine.specs.Guarded.{guarded_tables}
use Rattle.engine.specs.Settings.{setting}

-- the world of a role's bound query over these rows of the tables
abbrev pub world_over : Catalog → Rows → Name → Bound → World
world_over cat rows role b = record { role = role; query = b.query; tables = guarded_tables rows b.entries (setting cat role b).frame }

-- the combinations that the shape of a code gives over these rows
abbrev pub given_by : Catalog → Rows → Name → Bound → Code → List Combination
given_by cat rows role b code = map (combination_at (world_over cat rows role b).tables) (mean (world_over cat rows role b) (shape (setting cat role b) code))

-- the text may be asked, and the plan is read for it; in every content of the tables its code is right
pub record IsRight (cat : Catalog) (role : Name) (text plan : List ℕ) : Type 0 where
  pub query : Bound
  pub read : Plan
  pub is_admitted : admitted cat role text ≡ Ok query
  pub is_read : plan_at (plan_entries query.entries) plan ≡ Ok read
  -- its shape gives exactly the combinations of rows that the role sees that pass the movable conjuncts
  pub passes : (rows : Rows) → IsPermutation (given_by cat rows role query (plain_code read.code)) (passing role (movable_conjuncts query.query) (left_combinations role (left_ons query.query) (seen cat rows role query.entries)))
  -- so over them the query has its answer
  pub answers : (rows : Rows) → report.answer role query.query (given_by cat rows role query (plain_code read.code)) ≡ answer cat rows role query

abbrev pub AcceptedAreRight : Type 0
AcceptedAreRight = (cat : Catalog) (role : Name) (text plan : List ℕ) → IsWellFormed cat → audit cat role text plan ≡ Judged Accepted → IsRight cat role text plan
