use Rattle.std.proofs.Common.{◌≡◌, ◌<◌, ◌≤◌, ◌^◌, ℕ, get_or}
use Rattle.columns.proofs.logic.not_masks.Given as goal
use Rattle.columns.proofs.Words.{IsInside}

abbrev pub invariant-loop-k : goal.invariant-loop-k
invariant-loop-k l = record {
  fit : (j : ℕ) → get_or l.fn.is_true j 0 < 2 ^ 64;
  done : (j : ℕ) → j < l.k → IsInside l.len j (get_or l.fn.is_true j 0) (get_or l.is_null j 0) (get_or l.is_true j 0);
  left : (j : ℕ) → l.k ≤ j → get_or l.is_true j 0 ≡ get_or l.fn.is_true j 0;
}
