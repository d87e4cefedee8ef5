use Rattle.std.proofs.Common.{map}
use Rattle.expr.specs.View.{bound_expr_of}
use Rattle.expr.specs.Movable.{movable}
use Rattle.expr.proofs.Conjoined.{if_all_filtered}
use Rattle.expr.proofs.conjuncts.movable_conjuncts.Goals as goal

pub returns-clause-movable : goal.returns-clause-movable
returns-clause-movable g c = if_all_filtered (λ v. map (λ e. bound_expr_of e.now) v.items) movable (map (λ e. bound_expr_of e.now) c.deref.result.now) c.parted.result c.parted.ensures
