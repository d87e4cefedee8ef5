-- Two values, or the least offset of an error.
use Rattle.std.specs.Prelude.{ℕ, Result, Ok, Err}
use Rattle.expr.specs.Offsets.{least}

-- both values, or the least offset of an error
abbrev pub both : {X Y : Type 0} → Result X ℕ → Result Y ℕ → Result (X × Y) ℕ
both (Ok x) (Ok y) = Ok (x, y)
both (Ok x) (Err j) = Err j
both (Err i) (Ok y) = Err i
both (Err i) (Err j) = Err (least i j)
