-- The plan of a query.
use Rattle.std.specs.Prelude.{◌≡◌, ◌≤◌, ℕ, true, List, ◌++◌, length, Some}
use Rattle.expr.specs.BoundQuery.{BoundQuery}
use Rattle.expr.specs.Codes.{Code}
use Rattle.rewrite.specs.Written.{written}
use Rattle.algebra.specs.Steps.{Step}
use Rattle.trailcheck.specs.Admissible.{is_admissible}
use Rattle.trailcheck.specs.Verdicts.{verdict}
use Rattle.trailcheck.specs.declared.verdict.Verdict.TheVariants.{Accepted}
use Rattle.rewrite.specs.Laws.{most_plan_steps}
use Rattle.rewrite.specs.Placing.{placing}
use Rattle.rewrite.specs.Listing.{simplifying}
use Rattle.code_costs.specs.Best.{Problem, estimates}
use Rattle.code_costs.specs.Cost as joindp
use Rattle.planning.specs.Best.{best}

-- what a query is planned with, and its code with its cost and trail
pub record Plan : Type 0 where
  pub query : BoundQuery
  pub problem : Problem
  pub cost : ℕ
  pub code : Code
  pub trail : List Step

-- the code is the best of those that a plan may have, and the checker accepts the trail, which query, setting and code settle
pub record IsPlan (p : Plan) : Type 0 where
  pub admissible : is_admissible p.problem.setting p.code ≡ true
  pub cost : p.cost ≡ joindp.cost (estimates p.problem) p.code
  pub best : best p.problem ≡ Some p.code
  pub steps : p.trail ≡ simplifying p.query ++ placing p.problem.setting p.code
  pub accepted : verdict p.problem.setting (written (length p.problem.setting.frame) p.query) p.trail p.code ≡ Accepted
  pub short : length p.trail ≤ most_plan_steps
