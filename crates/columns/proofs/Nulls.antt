-- The nulls of a column are its bits.
use Rattle.std.proofs.Common.{◌≡◌, Bool, true, false, List, [], ◌∷◌, length, map, refl, ap, arith}
use Rattle.std.specs.Simd.Lanes.{zip2}
use Rattle.value.specs.Datum.{Datum}
use Rattle.columns.specs.Columns.{int_unless, bool_unless, text_unless}
use Rattle.columns.specs.Optional.{is_null}

module _ {X : Type 0} (f : X → Bool → Datum) (is_bit : (x : X) (b : Bool) → is_null (f x b) ≡ b) where
  pub nulls_are : (xs : List X) (bits : List Bool) → length bits ≡ length xs → map is_null (zip2 f xs bits) ≡ bits
  nulls_are [] [] e = refl
  nulls_are [] (b ∷ bits) e = absurd (omega arith)
  nulls_are (x ∷ xs) [] e = absurd (omega arith)
  nulls_are (x ∷ xs) (b ∷ bits) e = λ p. is_bit x b p ∷ nulls_are xs bits (omega arith) p

pub int_null : (n : _) (b : Bool) → is_null (int_unless n b) ≡ b
int_null n true = refl
int_null n false = refl

pub bool_null : (t b : Bool) → is_null (bool_unless t b) ≡ b
bool_null t true = refl
bool_null t false = refl

pub text_null : (t : _) (b : Bool) → is_null (text_unless t b) ≡ b
text_null t true = refl
text_null t false = refl
