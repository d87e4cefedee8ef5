use Rattle.tables.proofs.NullText.{no_text_is_null}
use Rattle.tables.proofs.table.law_no_null_text.Goals as goal

pub returns : goal.returns
returns c = no_text_is_null
