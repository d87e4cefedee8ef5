use Rattle.std.proofs.Common.{◌∙◌, not, map, ap}
use Rattle.std.specs.List.{list_all}
use Rattle.row_objects.specs.Memberships.{is_membership}
use Rattle.row_objects.specs.Reached.{is_of_roles}
use Rattle.row_objects.specs.MembershipView.{membership_of}
use Rattle.catalog.proofs.Known.{left_are}
use Rattle.catalog.proofs.catalog.Catalog.remove_member.Goals as goal

pub invariant_of-self : goal.invariant_of-self
invariant_of-self g c = (
  c.self.invariant.0,
  ap (list_all (is_of_roles c.self.inside.roles)) c.remove_membership.ensures
      ∙ left_are (is_of_roles c.self.inside.roles) (λ m. not (is_membership c.args.group.now c.args.member.now m)) (map membership_of c.self.inside.memberships.items) c.self.invariant.1,
)
