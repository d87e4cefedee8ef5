use Rattle.std.proofs.Common.{refl}
use Rattle.catalog.specs.Checks.{first_refusal}
use Rattle.catalog.specs.RevokeRole.{after_revoke_role, checks_revoke_role}
use Rattle.catalog.proofs.Made.{made, refused}
use Rattle.catalog.proofs.catalog.Catalog.revoke_role.Goals as goal

pub returns-in-Some : goal.returns-in-Some
returns-in-Some g c = (refl, refused (first_refusal (checks_revoke_role c.args.self.now c.args.actor.now c.args.group.now c.args.member.now)) (after_revoke_role c.args.self.now c.args.group.now c.args.member.now) c.in-Some.why c.in-Some.ensures)

pub returns : goal.returns
returns g c = made (first_refusal (checks_revoke_role c.args.self.now c.args.actor.now c.args.group.now c.args.member.now)) (after_revoke_role c.args.self.now c.args.group.now c.args.member.now) c.remove_member.new.self c.in_default.ensures c.remove_member.ensures
