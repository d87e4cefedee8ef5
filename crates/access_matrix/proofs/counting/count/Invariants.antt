use Rattle.std.proofs.Common.{◌≡◌, ◌≤◌, filter, length, take}
use Rattle.access_matrix.proofs.counting.count.Given as goal

abbrev pub invariant-loop-number : goal.invariant-loop-number
invariant-loop-number g l = record {
  few : l.count ≤ l.number;
  counted : l.count ≡ length (filter (λ b. b) (take l.number l.marks));
}
