use Rattle.plan_texts.proofs.LineTexts.{lines_are_texts}
use Rattle.plan_texts.proofs.ReadTexts.{read_is_text}
use Rattle.plan_texts.proofs.laws.law_read_is_text.Goals as goal

pub returns-clause-lines : goal.returns-clause-lines
returns-clause-lines c = lines_are_texts

pub returns-clause-whole : goal.returns-clause-whole
returns-clause-whole c = read_is_text
