use Rattle.std.proofs.Common.{◌≡◌, Option, Some}
use Rattle.expr.specs.declared.bound.ColumnId.{ColumnId}
use Rattle.predicates.specs.Equalities.{column_sides}
use Rattle.joindp.proofs.Listing.{has_both, on_ok_both}
use Rattle.joindp.proofs.orders.push_sides.Goals as goal

pub returns-in_ok-push_order-in-Some-clause-there :
    goal.returns-in_ok-push_order-in-Some-clause-there
returns-in_ok-push_order-in-Some-clause-there g c =
    let a = c.in-Some.a in
    let b = c.in-Some.b in
    let sides : Option (ColumnId × ColumnId) = Some (a, b) in
    let same : sides ≡ column_sides c.args.condition.now = cc in
    let last = c.push_order-in-Some in
    on_ok_both last.result (λ kept there. has_both last.new.orders a b (column_sides c.args.condition.now) same (kept (Some a) c.in_ok-push_order-in-Some.ensures.there) there) last.ensures.kept last.ensures.there
