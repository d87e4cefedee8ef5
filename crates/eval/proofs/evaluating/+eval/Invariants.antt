use Rattle.std.proofs.Common.{◌≡◌, ◌≢◌, ◌+◌, ◌≤◌, drop, true}
use Rattle.value.specs.declared.order.Truth.TheVariants.{False, True}
use Rattle.expr.specs.View.{bound_arms, bound_expr_of, bound_exprs, otherwise_of}
use Rattle.eval.specs.Meaning.{conjunction, disjunction, chosen, otherwise, with_least, with_greatest}
use Rattle.eval.specs.Memory.{all_take_no_memory, arms_take_no_memory}
use Rattle.expr.specs.Weights.{weight, all_weight, arms_weight}
use Rattle.eval.proofs.Measures.{case_measure}
use Rattle.eval.proofs.evaluating.+eval.Given as goal

abbrev pub decreases-evaluate : goal.decreases-evaluate
decreases-evaluate g l = weight (bound_expr_of l.expression.now) + weight (bound_expr_of l.expression.now)

abbrev pub decreases-conjunction : goal.decreases-conjunction
decreases-conjunction g l = all_weight (bound_exprs l.members.now) + all_weight (bound_exprs l.members.now)

abbrev pub decreases-disjunction : goal.decreases-disjunction
decreases-disjunction g l = all_weight (bound_exprs l.members.now) + all_weight (bound_exprs l.members.now)

abbrev pub decreases-chosen : goal.decreases-chosen
decreases-chosen g l = case_measure (bound_arms l.arms.now) (otherwise_of l.otherwise.now)

abbrev pub invariant-conjunction-loop-member : goal.invariant-conjunction-loop-member
invariant-conjunction-loop-member g l = record {
  open_yet : l.known ≢ False;
  rest : with_least l.known (conjunction (g.R.Row.cells l.row) l.role.name.now (bound_exprs (drop l.member-index l.members))) ≡ conjunction (g.R.Row.cells l.row) l.role.name.now (bound_exprs l.members);
  memory : all_take_no_memory (bound_exprs l.members) ≡ true → all_take_no_memory (bound_exprs (drop l.member-index l.members)) ≡ true;
  lighter : all_weight (bound_exprs (drop l.member-index l.members)) ≤ all_weight (bound_exprs l.members);
}

abbrev pub invariant-disjunction-loop-member : goal.invariant-disjunction-loop-member
invariant-disjunction-loop-member g l = record {
  open_yet : l.known ≢ True;
  rest : with_greatest l.known (disjunction (g.R.Row.cells l.row) l.role.name.now (bound_exprs (drop l.member-index l.members))) ≡ disjunction (g.R.Row.cells l.row) l.role.name.now (bound_exprs l.members);
  memory : all_take_no_memory (bound_exprs l.members) ≡ true → all_take_no_memory (bound_exprs (drop l.member-index l.members)) ≡ true;
  lighter : all_weight (bound_exprs (drop l.member-index l.members)) ≤ all_weight (bound_exprs l.members);
}

abbrev pub invariant-chosen-loop-arm : goal.invariant-chosen-loop-arm
invariant-chosen-loop-arm g l = record {
  rest : chosen (g.R.Row.cells l.row) l.role.name.now (bound_arms (drop l.arm-index l.arms)) (otherwise (g.R.Row.cells l.row) l.role.name.now (otherwise_of l.otherwise)) ≡ chosen (g.R.Row.cells l.row) l.role.name.now (bound_arms l.arms) (otherwise (g.R.Row.cells l.row) l.role.name.now (otherwise_of l.otherwise));
  memory : arms_take_no_memory (bound_arms l.arms) ≡ true → arms_take_no_memory (bound_arms (drop l.arm-index l.arms)) ≡ true;
  lighter : arms_weight (bound_arms (drop l.arm-index l.arms)) ≤ arms_weight (bound_arms l.arms);
}
