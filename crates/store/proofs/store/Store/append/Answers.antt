use Rattle.std.proofs.Common.{sym, ◌∙◌}
use Rattle.store.proofs.store.Store.append.Goals as goal

pub returns-clause-loaded : goal.returns-clause-loaded
returns-clause-loaded g c = c.append_at.ensures.loaded c.args.table.now (sym c.table_index.ensures.index ∙ c.unwrap-index.ensures)
