use Rattle.std.proofs.Common.{◌≡◌, ◌++◌, length}
use Rattle.tabular.specs.Tables.{rule_line}
use Rattle.tabular.proofs.lines.push_rule.Given as goal

abbrev pub invariant-loop-column : goal.invariant-loop-column
invariant-loop-column g l = l.out.items ++ rule_line l.columns ≡ l.fn.out.items ++ rule_line l.fn.columns

abbrev pub decreases-loop-column : goal.decreases-loop-column
decreases-loop-column g l = length l.columns
