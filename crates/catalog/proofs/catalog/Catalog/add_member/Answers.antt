use Rattle.std.proofs.Common.{◌≡◌, ◌&&◌, true, map, sym, ap, subst}
use Rattle.std.proofs.lemmas.Result.{on_err_weaker}
use Rattle.row_objects.specs.MembershipView.{membership_of}
use Rattle.catalog.specs.Catalog.{Catalog, is_role}
use Rattle.catalog.proofs.Known.{known_after}
use Rattle.catalog.proofs.catalog.Catalog.add_member.Goals as goal

pub invariant_of-self : goal.invariant_of-self
invariant_of-self g c = (
  c.self.invariant.0,
  known_after c.self.inside.roles c.args.group.now c.args.member.now (map membership_of c.self.inside.memberships.items) c.self.invariant.1
      (subst (λ (cat : Catalog). (is_role cat c.args.group.now && is_role cat c.args.member.now) ≡ true) (sym c.self.view_is) c.requires)
      c.add_membership.result (map membership_of c.add_membership.new.memberships.items) c.add_membership.ensures.done
      (on_err_weaker c.add_membership.result (λ e. ap (λ items. map membership_of items) e) c.add_membership.ensures.unchanged),
)
