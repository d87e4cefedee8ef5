-- The view of the Rust type of plans as spec data.
use Rattle.std.specs.Prelude.{◌++◌, map}
use Rattle.expr.specs.View.{bound_query_of, code_of}
use Rattle.stats.specs.View.{stats_of}
use Rattle.trailcheck.specs.View.{setting_of}
use Rattle.rewrite.specs.Placing.{placing}
use Rattle.rewrite.specs.Listing.{simplifying}
use Rattle.planning.specs.Plans.{Plan}
use Rattle.planning.specs.Wanted.{wanted_column}
use Rattle.planning.specs.declared.plan.Plan.TheInside.{Inside}

abbrev pub plan_of : {A : Type 0} → Inside A → Plan
plan_of p = record {
  query = bound_query_of p.query.now;
  problem = record { setting = setting_of p.setting.now; statistics = map (λ s. stats_of s.now) p.statistics.now; wanted = wanted_column (bound_query_of p.query.now) };
  cost = p.cost;
  code = code_of p.code;
  trail = simplifying (bound_query_of p.query.now) ++ placing (setting_of p.setting.now) (code_of p.code);
}
