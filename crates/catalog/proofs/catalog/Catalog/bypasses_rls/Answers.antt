use Rattle.std.proofs.Common.{◌∙◌, ap}
use Rattle.catalog.proofs.Roles.{flag_by, its_bypass}
use Rattle.catalog.proofs.catalog.Catalog.bypasses_rls.Goals as goal

pub returns-in-Some : goal.returns-in-Some
returns-in-Some g c = rw (← c.self.view_is) (ap (flag_by (λ role. role.bypass_rls)) c.in-Some.ensures ∙ its_bypass c.args.name.now c.self.inside.roles)

pub returns-in-None : goal.returns-in-None
returns-in-None g c = rw (← c.self.view_is) (ap (flag_by (λ role. role.bypass_rls)) c.in-None.ensures ∙ its_bypass c.args.name.now c.self.inside.roles)
