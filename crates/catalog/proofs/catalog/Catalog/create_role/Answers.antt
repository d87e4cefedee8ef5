use Rattle.std.proofs.Common.{inl, inr, refl}
use Rattle.catalog.specs.Checks.{first_refusal}
use Rattle.catalog.specs.CreateRole.{after_create_role, checks_create_role}
use Rattle.catalog.proofs.Made.{made, refused}
use Rattle.catalog.proofs.catalog.Catalog.create_role.Goals as goal

pub returns-in-Some : goal.returns-in-Some
returns-in-Some g c = (refl, inr (refused (first_refusal (checks_create_role c.args.self.now c.args.actor.now c.args.name.now)) (after_create_role c.args.self.now c.args.name.now c.args.superuser c.args.bypass_rls) c.in-Some.why c.in-Some.ensures))

pub returns-in-Ok : goal.returns-in-Ok
returns-in-Ok g c = made (first_refusal (checks_create_role c.args.self.now c.args.actor.now c.args.name.now)) (after_create_role c.args.self.now c.args.name.now c.args.superuser c.args.bypass_rls) c.add_role.new.self c.in_default.ensures c.in-Ok.ensures.done

pub returns-in-Err : goal.returns-in-Err
returns-in-Err g c = (c.in-Err.ensures.unchanged, inl refl)
