use Rattle.std.proofs.Common.{◌∙◌, ap, not, map, rules}
use Rattle.std.proofs.lemmas.Fn.{filter_same}
use Rattle.row_objects.specs.Memberships.{is_membership}
use Rattle.row_objects.specs.MembershipView.{membership_of}
use Rattle.row_ast.proofs.Filters.{map-filter}
use Rattle.row_objects.proofs.memberships.remove_membership.Goals as goal

pub returns : goal.returns
returns g c =
    ap (λ items. map (λ m. membership_of m) items)
    (filter_same _ (λ m. not (is_membership c.args.group.now c.args.member.now (membership_of m))) (c.args.group, c.args.member) (λ x b f h. search rules) c.args.memberships.now.items c.retain.new.self.items c.retain.ensures.filtered)
    ∙ map-filter (λ m. membership_of m) (λ m. not (is_membership c.args.group.now c.args.member.now m)) c.args.memberships.now.items
