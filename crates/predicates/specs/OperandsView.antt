-- Lent operands as spec data.
use Rattle.expr.specs.View.{bound_arms, bound_expr_of, bound_exprs, otherwise_of}
use Rattle.predicates.specs.Operands as spec
use Rattle.predicates.specs.declared.operands.Operands.{Operands}
use Rattle.predicates.specs.declared.operands.Operands.TheVariants as lent

abbrev pub operands_of : {A : Type 0} → Operands A → spec.Operands
operands_of lent.None = spec.none
operands_of (lent.One e) = spec.one (bound_expr_of e.now)
operands_of (lent.Two e f) = spec.two (bound_expr_of e.now) (bound_expr_of f.now)
operands_of (lent.Three e f g) = spec.three (bound_expr_of e.now) (bound_expr_of f.now) (bound_expr_of g.now)
operands_of (lent.Members es) = spec.members (bound_exprs es.now)
operands_of (lent.Arms as_ o) = spec.arms (bound_arms as_.now) (otherwise_of o.now)
