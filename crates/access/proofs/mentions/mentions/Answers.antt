use Rattle.std.proofs.Common.{ap, map}
use Rattle.std.specs.Prelude.{option_map}
use Rattle.expr.specs.View.{bound_expr_of, bound_item_of, bound_query_of}
use Rattle.access.proofs.Mentioned.{all_parts}
use Rattle.access.proofs.mentions.mentions.Goals as goal

pub returns : goal.returns
returns g c =
    all_parts (bound_query_of c.args.query.now) _ _ _ _ _ _ _ _ _ (ap (λ items. map (λ i. bound_item_of i) items) c.as_slice.ensures)
    (ap (λ ons. map (λ o. option_map (λ b. bound_expr_of b.value) o) ons) c.as_slice-2.ensures) c.as_slice-3.ensures
    c.new-mentions.ensures c.in_ok-push_items.ensures c.in_ok-push_from.ensures c.in_ok-push_condition.ensures c.in_ok-push_ids.ensures c.in_ok-push_condition-2.ensures
