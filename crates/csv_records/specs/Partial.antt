-- A record that is being read.
use Rattle.std.specs.Prelude.{ℕ, List}

-- the fields so far, and the bytes of the one at hand
pub record Partial : Type 0 where
  pub fields : List (List ℕ)
  pub field : List ℕ
