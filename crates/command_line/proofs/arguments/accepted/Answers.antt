use Rattle.std.proofs.Common.{sym}
use Rattle.command_line.proofs.arguments.accepted.Goals as goal

pub returns-clause-once : goal.returns-clause-once
returns-clause-once c = sym c.if-is_input_twice.ensures
