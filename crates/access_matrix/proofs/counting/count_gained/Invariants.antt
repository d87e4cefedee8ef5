use Rattle.std.proofs.Common.{◌≡◌, ◌≤◌, filter, length}
use Rattle.std.specs.Prelude.{◌&&◌, false, get_or, not}
use Rattle.std.specs.List.{range_with_len}
use Rattle.access_matrix.proofs.counting.count_gained.Given as goal

abbrev pub invariant-loop-number : goal.invariant-loop-number
invariant-loop-number g l = record {
  few : l.count ≤ l.number;
  counted : l.count ≡ length (filter (λ number. get_or l.new number false && not (get_or l.old number false)) (range_with_len 0 l.number));
}
