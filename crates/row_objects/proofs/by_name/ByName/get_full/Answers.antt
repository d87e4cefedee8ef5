use Rattle.std.proofs.Common.{◌∙◌}
use Rattle.row_objects.proofs.Entries.{entry-by_bytes, none-by_bytes, index-by_bytes}
use Rattle.row_objects.proofs.by_name.ByName.get_full.Goals as goal

pub returns-in-Some-clause-index : goal.returns-in-Some-clause-index
returns-in-Some-clause-index g c = rw (← c.self.view_is) (c.in-Some.ensures.index ∙ index-by_bytes c.args.name.now c.self.inside.entries.entries)

pub returns-in-Some-clause-entry : goal.returns-in-Some-clause-entry
returns-in-Some-clause-entry g c = rw (← c.self.view_is, c.as_str.ensures.value) (entry-by_bytes c.args.name.now c.self.inside.entries.entries _ _ c.in-Some.ensures.key c.in-Some.ensures.value)

pub returns-in-None-clause-index : goal.returns-in-None-clause-index
returns-in-None-clause-index g c = rw (← c.self.view_is) (c.in-None.ensures.index ∙ index-by_bytes c.args.name.now c.self.inside.entries.entries)

pub returns-in-None-clause-entry : goal.returns-in-None-clause-entry
returns-in-None-clause-entry g c = rw (← c.self.view_is) (none-by_bytes c.args.name.now c.self.inside.entries.entries c.in-None.ensures.value)
