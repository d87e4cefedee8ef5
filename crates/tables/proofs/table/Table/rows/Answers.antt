use Rattle.tables.proofs.Wide.{wide_rows}
use Rattle.tables.proofs.table.Table.rows.Goals as goal

pub returns-clause-wide : goal.returns-clause-wide
returns-clause-wide g c = wide_rows c.self.inside.columns c.self.inside.rows.rows c.args.self.now c.self.view_is c.self.invariant.wide
