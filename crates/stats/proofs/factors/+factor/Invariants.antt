use Rattle.std.proofs.Common.{◌≡◌, ◌≤◌, drop, map}
use Rattle.expr.specs.View.{bound_expr_of, bound_exprs}
use Rattle.expr.specs.Weights.{weight, all_weight}
use Rattle.stats.specs.Factors as spec
use Rattle.stats.specs.Factors.{million}
use Rattle.stats.specs.View.{stats_of}
use Rattle.stats.proofs.factors.+factor.Given as goal

abbrev pub decreases-factor : goal.decreases-factor
decreases-factor g l = weight (bound_expr_of l.condition.now)

abbrev pub decreases-all_factor : goal.decreases-all_factor
decreases-all_factor g l = all_weight (bound_exprs l.members.now)

abbrev pub decreases-any_factor : goal.decreases-any_factor
decreases-any_factor g l = all_weight (bound_exprs l.members.now)

abbrev pub invariant-all_factor-loop-member : goal.invariant-all_factor-loop-member
invariant-all_factor-loop-member g l = record {
  rest : spec.all_factor (map (λ s. stats_of s.now) l.statistics) l.all (bound_exprs (drop l.member-index l.members)) ≡ spec.all_factor (map (λ s. stats_of s.now) l.statistics) million (bound_exprs l.members);
  parts : l.all ≤ million;
  lighter : all_weight (bound_exprs (drop l.member-index l.members)) ≤ all_weight (bound_exprs l.members);
}

abbrev pub invariant-any_factor-loop-member : goal.invariant-any_factor-loop-member
invariant-any_factor-loop-member g l = record {
  rest : spec.any_factor (map (λ s. stats_of s.now) l.statistics) l.any (bound_exprs (drop l.member-index l.members)) ≡ spec.any_factor (map (λ s. stats_of s.now) l.statistics) 0 (bound_exprs l.members);
  parts : l.any ≤ million;
  lighter : all_weight (bound_exprs (drop l.member-index l.members)) ≤ all_weight (bound_exprs l.members);
}
