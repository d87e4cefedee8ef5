use Rattle.std.proofs.Common.{map, sym, ◌∙◌}
use Rattle.store.specs.View.{stored_of}
use Rattle.store.proofs.Agreement.{same_place}
use Rattle.store.proofs.store.Store.table_index.Goals as goal

pub returns-in-Some-clause-index : goal.returns-in-Some-clause-index
returns-in-Some-clause-index g c = rw (← c.self.view_is) (c.in-Some.ensures.index ∙ sym (same_place c.args.name.now 0 (map (λ t. stored_of t) c.self.inside.tables.items) c.self.inside.catalog.tables c.self.invariant.agrees))

pub returns-in-None-clause-index : goal.returns-in-None-clause-index
returns-in-None-clause-index g c = rw (← c.self.view_is) (c.in-None.ensures.index ∙ sym (same_place c.args.name.now 0 (map (λ t. stored_of t) c.self.inside.tables.items) c.self.inside.catalog.tables c.self.invariant.agrees))
