use Rattle.std.proofs.Common.{◌∙◌, sym, ap, is_some}
use Rattle.catalog.proofs.Named.{is_some-map}
use Rattle.catalog.proofs.Roles.{is_there}
use Rattle.catalog.proofs.catalog.Catalog.is_role.Goals as goal

pub returns : goal.returns
returns g c = rw (← c.self.view_is) (c.is_some.ensures ∙ sym (is_some-map (λ x. x.now) c.get.result) ∙ ap is_some c.get.ensures ∙ is_there c.args.name.now c.self.inside.roles)
