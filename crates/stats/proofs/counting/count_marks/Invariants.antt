use Rattle.std.proofs.Common.{◌≡◌, ◌+◌, ◌≤◌, drop}
use Rattle.stats.specs.Marked as marks
use Rattle.stats.proofs.counting.count_marks.Given as goal

abbrev pub invariant-loop-row : goal.invariant-loop-row
invariant-loop-row g l = record {
  few : l.count ≤ l.row;
  counts : l.count + marks.count_marks (drop l.row l.marks) ≡ marks.count_marks l.marks;
}
