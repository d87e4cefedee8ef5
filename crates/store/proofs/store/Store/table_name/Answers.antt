use Rattle.std.proofs.Common.{map, sym, ◌∙◌}
use Rattle.store.specs.View.{stored_of}
use Rattle.store.proofs.Agreement.{named_there, same_there}
use Rattle.store.proofs.store.Store.table_name.Goals as goal

pub returns-clause-there : goal.returns-clause-there
returns-clause-there g c =
    let below = rw (← c.self.view_is) at c.requires in
    rw (← c.self.view_is, c.as_str.ensures) (
    sym (same_there c.index.result.now.name (map (λ t. stored_of t) c.self.inside.tables.items) c.self.inside.catalog.tables c.self.invariant.agrees)
    ∙ named_there (λ t. stored_of t) c.self.inside.tables.items c.args.index c.index.result.now below c.index.ensures)
