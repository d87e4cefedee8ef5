use Rattle.std.proofs.Common.{refl}
use Rattle.std.proofs.lemmas.Option.{slice_get-map}
use Rattle.row_objects.specs.View.{role_of}
use Rattle.catalog.proofs.catalog.Catalog.role_name.Goals as goal

pub returns-in-Some : goal.returns-in-Some
returns-in-Some g c = rw (← c.self.view_is, slice_get-map role_of c.self.inside.roles c.args.index, ← c.in-Some.ensures) refl

pub returns-in-None : goal.returns-in-None
returns-in-None g c = rw (← c.self.view_is, slice_get-map role_of c.self.inside.roles c.args.index, ← c.in-None.ensures) refl
