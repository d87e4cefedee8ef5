use Rattle.engine.proofs.Tables.{holds_each_table}
use Rattle.engine.proofs.asking.law_each_table_is_held.Goals as goal

pub returns : goal.returns
returns c = holds_each_table
