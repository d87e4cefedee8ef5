-- Plans of roles' queries, which are made once and run as often as they are asked.
use Rattle.std.specs.Prelude.{◌≡◌, ℕ, List, ◌++◌, map, Ok}
use Rattle.value.specs.Datum.{Row}
use Rattle.value.specs.Names.{Name}
use Rattle.expr.specs.BoundQuery.{BoundQuery}
use Rattle.expr.specs.Codes.{Code}
use Rattle.tuples.specs.Guards.{shows}
use Rattle.catalog.specs.Catalog.{Catalog}
use Rattle.access.specs.Access.{sees}
use Rattle.stats.specs.Statistics.{Stats}
use Rattle.trailcheck.specs.Settings.{Setting}
use Rattle.planning.specs.Placing.{placing}
use Rattle.planning.specs.Plans as planning
use Rattle.planning.specs.Plans.{IsPlan}
use Rattle.planning.specs.Listing.{simplifying}
use Rattle.planning.specs.Wanted.{wanted_column}
use Rattle.resolve.specs.Resolved.{Bound}
use Rattle.store.specs.Database.{Database, rows_of}
use Rattle.analysis.specs.Analysis.{admitted}
use Rattle.engine.specs.SeenStatistics.{seen_statistics}
use Rattle.engine.specs.Settings as settings

-- what a plan is made from, and its code with its cost; it does not have the query that it is for
pub record Plan : Type 0 where
  pub setting : Setting
  pub statistics : List Stats
  pub cost : ℕ
  pub code : Code

-- the plan with its query, and with the trail by which the checker accepts it
abbrev pub with_query : BoundQuery → Plan → planning.Plan
with_query q p = record {
  query = q;
  problem = record { setting = p.setting; statistics = p.statistics; wanted = wanted_column q };
  cost = p.cost;
  code = p.code;
  trail = simplifying q ++ placing p.setting p.code;
}

-- its code is the best of some query by the statistics that it holds, and the checker accepts its trail
abbrev pub IsSomePlan : Plan → Type 0
IsSomePlan p = (q : BoundQuery) × IsPlan (with_query q p)

-- the bound query is that of a text that the role may ask
abbrev pub IsAdmitted : Catalog → Name → Bound → Type 0
IsAdmitted cat role b = (text : List ℕ) × (admitted cat role text ≡ Ok b)

-- It is the plan of a role's bound query in this database: the best one by the statistics of the rows that the role sees, under
-- guards that show exactly these rows.
pub record IsPlanFor (database : Database) (role : Name) (b : Bound) (p : Plan) : Type 0 where
  pub is_best : IsPlan (with_query b.query p)
  pub of_setting : p.setting ≡ settings.setting database.catalog role b
  pub of_statistics : p.statistics ≡ seen_statistics database.catalog (rows_of database) role b
  pub of_guards : (row : Row) → map (λ g. shows role g row) p.setting.frame ≡ map (λ e. sees database.catalog role e.table row) b.entries
