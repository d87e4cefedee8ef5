-- The parts of a whole that weighs one more than all of them are lighter than it.
use Rattle.std.proofs.Common.{◌≡◌, ℕ, suc, ◌+◌, ◌<◌, arith}

-- a part that weighs x, of a whole that weighs w, which is t
module _ (x w t : ℕ) (h : w ≡ t) where
  pub lighter : w ≡ suc x → x < t
  lighter e = omega (arith, e, h)

  pub left_lighter : (y : ℕ) → w ≡ suc (x + y) → x < t
  left_lighter y e = omega (arith, e, h)

  pub right_lighter : (y : ℕ) → w ≡ suc (y + x) → x < t
  right_lighter y e = omega (arith, e, h)

  pub middle_lighter : (y z : ℕ) → w ≡ suc (y + (x + z)) → x < t
  middle_lighter y z e = omega (arith, e, h)

  pub last_lighter : (y z : ℕ) → w ≡ suc (y + (z + x)) → x < t
  last_lighter y z e = omega (arith, e, h)
