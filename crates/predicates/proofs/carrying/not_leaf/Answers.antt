use Rattle.std.proofs.Common.{ap, map, not}
use Rattle.value.specs.Datum.{datum}
use Rattle.expr.proofs.Copied.{copied_as, in_copied}
use Rattle.expr.proofs.Operands.{in_is}
use Rattle.predicates.specs.Inward.{not_leaf}
use Rattle.predicates.proofs.carrying.not_leaf.Goals as goal

pub returns-in-In : goal.returns-in-In
returns-in-In g c = copied_as c.membership.result _ _ (in_copied (not c.in-In.negated) c.in-In.offset _ _ _ _ (ap not_leaf (in_is c.args.expression.now c.in-In.negated c.in-In.offset c.in-In.values c.in-In.operand c.in-In.is c.deref-in-In.result.now c.deref-in-In.ensures)) (ap (map datum) c.as_slice.ensures)) (c.membership.ensures _ c.copy_expr-operand.ensures)
