-- The cells of a row in Rust.
use Rattle.std.proofs.Common.{◌≡◌, ℕ, ◌<◌, ◌≤◌, List, length, get_or, ap, sym, ◌∙◌, arith}
use Rattle.std.proofs.lemmas.List.{get_or-map, get_or_past, length-map}
use Rattle.value.specs.Datum.{cell, datum, null, row_of}
use Rattle.value.specs.declared.types.Value.{Value}

module _ {A : Type 0} (row : List (Value A)) (index : ℕ) where
  pub cell_within : (v : Value A) → index < length row → v ≡ get_or row index v → datum v ≡ cell (row_of row) index
  cell_within v within is = ap datum is ∙ sym (get_or-map datum row index v null within)

  pub cell_past : length row ≤ index → null ≡ cell (row_of row) index
  cell_past past = sym (get_or_past (row_of row) index null (omega (arith, length-map row (λ (v : Value A). datum v))))
