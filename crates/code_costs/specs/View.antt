-- The views of the Rust types as spec data.
use Rattle.std.specs.Prelude.{map}
use Rattle.stats.specs.View.{stats_of}
use Rattle.trailcheck.specs.View.{setting_of}
use Rattle.code_costs.specs.declared.problem.Problem as declared
use Rattle.code_costs.specs.Best.{Problem}

abbrev pub problem_of : {A : Type 0} → declared.Problem A → Problem
problem_of p = record { setting = setting_of p.setting.now; statistics = map (λ s. stats_of s.now) p.statistics.now; wanted = p.wanted }
