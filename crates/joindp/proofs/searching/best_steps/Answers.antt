use Rattle.std.proofs.Common.{None, false, refl, subst, sym}
use Rattle.joindp.specs.Search.{IsListed}
use Rattle.joindp.proofs.searching.best_steps.Goals as goal

-- none is an order that is listed
pub order_index-none-requires : goal.order_index-none-requires
order_index-none-requires g c = subst (λ l. IsListed l None) (sym c.as_slice-listed.ensures) (c.in_ok-orders.ensures.of_live (λ entry. false) None refl)
