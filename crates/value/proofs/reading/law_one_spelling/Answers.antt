use Rattle.value.proofs.OneSpelling.{read_again, one_spelling}
use Rattle.value.proofs.reading.law_one_spelling.Goals as goal

pub returns-clause-read_again : goal.returns-clause-read_again
returns-clause-read_again c = read_again

pub returns-clause-one_spelling : goal.returns-clause-one_spelling
returns-clause-one_spelling c = one_spelling
