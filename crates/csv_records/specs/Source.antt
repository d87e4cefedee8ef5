-- The records that a source has left.
use Rattle.std.specs.Prelude.{ℕ, List, Option}

-- the records that are left, where they are known, and the fields of the record taken last
pub record Source : Type 0 where
  pub records : Option (List (List (List ℕ)))
  pub fields : List (List ℕ)
