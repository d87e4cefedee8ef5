use Rattle.store.proofs.Agreement.{each_contents}
use Rattle.store.proofs.laws.law_tables_have_contents.Goals as goal

pub returns : goal.returns
returns c = each_contents
