use Rattle.std.proofs.Common.{refl}
use Rattle.std.proofs.lemmas.Option.{slice_get-map}
use Rattle.row_objects.specs.View.{table_entry}
use Rattle.catalog.proofs.catalog.Catalog.table_at.Goals as goal

pub returns-in-Some : goal.returns-in-Some
returns-in-Some g c = rw (← c.self.view_is, slice_get-map table_entry c.self.inside.tables c.args.index, ← c.in-Some.ensures, c.new.ensures) refl

pub returns-in-None : goal.returns-in-None
returns-in-None g c = rw (← c.self.view_is, slice_get-map table_entry c.self.inside.tables c.args.index, ← c.in-None.ensures) refl
