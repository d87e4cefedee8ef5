use Rattle.value.proofs.NoUtf8.{text_in, no_text}
use Rattle.value.proofs.reading.read_text.Goals as goal

pub returns-in-Ok : goal.returns-in-Ok
returns-in-Ok c = rw c.in-Ok.ensures.cases.0 (text_in c.args.text.now c.in-Ok.ensures.cases.1)

pub returns-in-Err : goal.returns-in-Err
returns-in-Err c = no_text c.args.text.now c.in-Err.ensures.cases.0
