use Rattle.std.proofs.Common.{ap, map, refl}
use Rattle.std.specs.Prelude.{option_map}
use Rattle.expr.specs.View.{bound_expr_of, bound_query_of}
use Rattle.expr.proofs.Conjoined.{inner_viewed, of_each}
use Rattle.expr.proofs.conjuncts.conjuncts.Goals as goal

pub returns : goal.returns
returns g c =
    of_each (bound_query_of c.args.query.now) _ _ _ _ (inner_viewed (λ o. option_map (λ b. bound_expr_of b.value) o) (bound_query_of c.args.query.now) _ c.args.query.now.ons _ c.as_slice-ons.ensures refl c.saturating_sub-inner.ensures)
    (ap (λ known. map (λ e. bound_expr_of e.now) known) c.new-known.ensures.items) c.in_ok-push_conditions.ensures c.in_ok-push_condition.ensures
