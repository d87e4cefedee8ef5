use Rattle.std.proofs.Common.{◌∙◌, sym}
use Rattle.row_objects.proofs.Entries.{named-by_bytes}
use Rattle.row_objects.proofs.by_name.ByName.get.Goals as goal

pub returns : goal.returns
returns g c = rw (← c.self.view_is) (c.get.ensures.value ∙ sym (named-by_bytes c.args.name.now c.self.inside.entries.entries))
