use Rattle.std.proofs.Common.{◌≡◌, ◌<◌, ◌≤◌, ℕ, get_or, bit_or, ◌^◌}
use Rattle.columns.proofs.logic.or_masks.Given as goal
use Rattle.columns.proofs.Words.{either_null}

abbrev pub invariant-loop-k : goal.invariant-loop-k
invariant-loop-k l = record {
  fit : (j : ℕ) → get_or l.fn.is_true j 0 < 2 ^ 64;
  true_done : (j : ℕ) → j < l.k → get_or l.is_true j 0 ≡ bit_or (get_or l.fn.is_true j 0) (get_or l.other_true j 0);
  null_done : (j : ℕ) → j < l.k → get_or l.is_null j 0 ≡ either_null (get_or l.fn.is_true j 0) (get_or l.fn.is_null j 0) (get_or l.other_true j 0) (get_or l.other_null j 0);
  true_left : (j : ℕ) → l.k ≤ j → get_or l.is_true j 0 ≡ get_or l.fn.is_true j 0;
  null_left : (j : ℕ) → l.k ≤ j → get_or l.is_null j 0 ≡ get_or l.fn.is_null j 0;
}
