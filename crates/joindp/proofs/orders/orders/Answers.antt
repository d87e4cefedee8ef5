use Rattle.std.proofs.Common.{None, slice_get, ap, ◌∙◌}
use Rattle.code_costs.specs.View.{problem_of}
use Rattle.joindp.proofs.Listing.{has_orders}
use Rattle.joindp.proofs.orders.orders.Goals as goal

pub returns : goal.returns
returns g c =
    let p = problem_of c.args.problem.now in
    let none = c.in_ok-push_order.ensures in
    let wanted = c.in_ok-push_order-2.ensures in
    let sides = c.in_ok-push_all_sides.ensures in
    has_orders p c.push_all_sides.new.orders (λ k e at. sides.there k e (ap (λ l. slice_get l k) c.as_slice.ensures ∙ at)) (sides.kept p.wanted wanted.there) (sides.kept None (wanted.kept None none.there))
