use Rattle.std.proofs.Common.{sym}
use Rattle.store.specs.Database.{is_named}
use Rattle.store.proofs.Places.{none_found}
use Rattle.store.proofs.Loads.{none_loaded}
use Rattle.store.proofs.store.Store.load.Goals as goal

pub returns-in_default-clause-loaded : goal.returns-in_default-clause-loaded
returns-in_default-clause-loaded g c = none_loaded (g.R.Read.remaining c.args.reader) _ _ c.args.table.now (none_found (is_named c.args.table.now) c.args.self.now.tables (sym c.in_default.ensures.index))

pub returns-in-Ok-clause-loaded : goal.returns-in-Ok-clause-loaded
returns-in-Ok-clause-loaded g c = rw c.in-Ok.is at (c.append_at.ensures.loaded c.args.table.now (sym c.in-Some.ensures.index))
