use Rattle.std.proofs.Common.{◌∙◌, ap}
use Rattle.std.specs.List.{list_any}
use Rattle.access.specs.Access.{includes_role}
use Rattle.access.proofs.guards.applies.Goals as goal

pub returns : goal.returns
returns g c = c.any_includes_role.ensures ∙ ap (list_any (includes_role c.args.catalog.now c.args.role.now)) c.as_slice.ensures
