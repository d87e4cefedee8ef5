use Rattle.std.proofs.Common.{refl, sym, ap, ◌∙◌}
use Rattle.std.specs.Prelude.{option_map}
use Rattle.value.specs.declared.refusal.Refusal.TheVariants as r
use Rattle.expr.specs.View.{bound_expr_of, bound_query_of}
use Rattle.scope.specs.Entry.{fault}
use Rattle.resolve.proofs.LeftFaults.{left_viewed}
use Rattle.resolve.proofs.resolved.left_fault.Goals as goal

pub returns-in-Some : goal.returns-in-Some
returns-in-Some g c =
    let all = left_viewed (λ o. option_map (λ b. bound_expr_of b.value) o) (bound_query_of c.args.query.now) _ c.args.query.now.ons _ c.as_slice-ons.ensures refl c.saturating_sub-inner.ensures in
    ap (option_map (fault r.FeatureNotSupported)) (sym c.in-Some.is ∙ c.first_in_all.ensures ∙ all)

pub returns-in-None : goal.returns-in-None
returns-in-None g c =
    let all = left_viewed (λ o. option_map (λ b. bound_expr_of b.value) o) (bound_query_of c.args.query.now) _ c.args.query.now.ons _ c.as_slice-ons.ensures refl c.saturating_sub-inner.ensures in
    ap (option_map (fault r.FeatureNotSupported)) (sym c.in-None.is ∙ c.first_in_all.ensures ∙ all)
