use Rattle.std.proofs.Common.{sym}
use Rattle.value.proofs.NoUtf8.{is_utf8-no_IsUtf8, no_bigint}
use Rattle.value.proofs.reading.bigint_of_bytes.Goals as goal

pub returns-in-Err : goal.returns-in-Err
returns-in-Err c = sym (no_bigint c.args.text.now (is_utf8-no_IsUtf8 c.args.text.now c.in-Err.ensures.cases.0))
