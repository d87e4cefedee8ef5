use Rattle.std.proofs.Common.{◌∙◌, ap, slice_get}
use Rattle.row_objects.proofs.Entries.{values-by_bytes}
use Rattle.row_objects.proofs.by_name.ByName.at.Goals as goal

pub returns : goal.returns
returns g c = rw (← c.self.view_is) (ap (λ l. slice_get l c.args.index) (values-by_bytes c.self.inside.entries.entries) ∙ c.index.ensures)
