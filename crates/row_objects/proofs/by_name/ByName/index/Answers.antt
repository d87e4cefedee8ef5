use Rattle.std.proofs.Common.{◌∙◌}
use Rattle.row_objects.proofs.Entries.{index-by_bytes}
use Rattle.row_objects.proofs.by_name.ByName.index.Goals as goal

pub returns-clause-index : goal.returns-clause-index
returns-clause-index g c = rw (← c.self.view_is) (c.get_index_of.ensures.index ∙ index-by_bytes c.args.name.now c.self.inside.entries.entries)
