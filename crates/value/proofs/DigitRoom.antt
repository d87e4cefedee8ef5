-- Room for the digits that are left, where there are at most 18.
use Rattle.std.proofs.Common.{◌+◌, ◌*◌, ◌^◌, ◌<◌, ◌≤◌, ℕ, ap, mul_assoc, pow-add, lit≤, arith}
use Rattle.std.proofs.Math.Nat.{pow-le-pow_right, mul-le-mul_right, le-mul_of_pos_right}

ten_pos : (k : ℕ) → 0 < 10 ^ k
ten_pos k = pow-le-pow_right (lit≤ tt) le
  where
    le : 0 ≤ k
    le = omega arith

-- j digits, of the number d, are behind those of n
pub behind : (j k n d : ℕ) → d < 10 ^ j → (n + 1) * 10 ^ (j + k) ≤ 10 ^ 18 → (n * 10 ^ j + d + 1) * 10 ^ k ≤ 10 ^ 18
behind j k n d h room =
    let le : n * 10 ^ j + d + 1 ≤ (n + 1) * 10 ^ j = omega (arith, h) in
    let more : (n * 10 ^ j + d + 1) * 10 ^ k ≤ (n + 1) * 10 ^ j * 10 ^ k = mul-le-mul_right (10 ^ k) le in
    omega (arith, more, mul_assoc (n + 1) (10 ^ j) (10 ^ k), ap (λ p. (n + 1) * p) (pow-add 10 j k), room)

-- no more digits are left than there is room for
pub within : (n k : ℕ) → (n + 1) * 10 ^ k ≤ 10 ^ 18 → n < 10 ^ 18
within n k room = omega (arith, le-mul_of_pos_right (n + 1) (ten_pos k), room)
