-- The view of the Rust type of plans as spec data.
use Rattle.std.specs.Prelude.{map}
use Rattle.expr.specs.View.{code_of}
use Rattle.stats.specs.View.{stats_of}
use Rattle.trailcheck.specs.View.{setting_of}
use Rattle.engine.specs.Plans.{Plan}
use Rattle.engine.specs.declared.plans.Plan.TheInside.{Inside}

abbrev pub plan_of : {A : Type 0} → Inside A → Plan
plan_of p = record { setting = setting_of p.setting; statistics = map (λ s. stats_of s) p.statistics; cost = p.cost; code = code_of p.code }
