use Rattle.std.proofs.Common.{refl}
use Rattle.std.specs.Prelude.{option_map}
use Rattle.expr.specs.View.{bound_expr_of, bound_query_of}
use Rattle.row_terms.proofs.LeftOns.{all_of}
use Rattle.row_terms.proofs.query_term.left_conditions.Goals as goal

pub returns : goal.returns
returns g c =
    all_of (λ o. option_map (λ b. bound_expr_of b.value) o) (bound_query_of c.args.query.now) _ c.args.query.now.ons _ _ _ c.as_slice-ons.ensures refl c.saturating_sub-inner.ensures c.new-known.ensures c.in_ok-push_left_conditions.ensures
