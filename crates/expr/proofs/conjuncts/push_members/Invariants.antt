use Rattle.std.proofs.Common.{◌≡◌, ◌++◌, drop, map}
use Rattle.expr.specs.View.{bound_expr_of}
use Rattle.expr.proofs.conjuncts.push_members.Given as goal

abbrev pub invariant-loop-member : goal.invariant-loop-member
invariant-loop-member g l = map (λ e. bound_expr_of e.now) l.known.items ++ map (λ e. bound_expr_of e) (drop l.member-index l.members) ≡ map (λ e. bound_expr_of e.now) l.fn.known.items ++ map (λ e. bound_expr_of e) l.members
