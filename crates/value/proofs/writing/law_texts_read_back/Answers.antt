use Rattle.value.proofs.ReadBack.{written, read}
use Rattle.value.proofs.writing.law_texts_read_back.Goals as goal

pub returns-clause-written : goal.returns-clause-written
returns-clause-written c = written

pub returns-clause-read : goal.returns-clause-read
returns-clause-read c = read
