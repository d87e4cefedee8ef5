use Rattle.std.proofs.Common.{length}
use Rattle.rewrite.proofs.arranging.+code_entries.Given as goal

abbrev pub decreases-code_entries : goal.decreases-code_entries
decreases-code_entries g l = length l.steps.now
