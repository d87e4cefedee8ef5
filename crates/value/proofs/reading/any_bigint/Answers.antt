use Rattle.std.proofs.Common.{rules}
use Rattle.value.proofs.Spelling.{parsed_err}
use Rattle.value.proofs.reading.any_bigint.Goals as goal

pub returns-in-Err : goal.returns-in-Err
returns-in-Err c = parsed_err c.args.text.now (search rules) c.in-Err.ensures.value.0
