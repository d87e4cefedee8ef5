-- Truth values in two masks.
use Rattle.std.proofs.Common.{◌≡◌, ℕ, zero, suc, ◌-◌, Bool, true, false, not, ◌&&◌, cond, min, ℤ, List, [], ◌∷◌, length, map, get_or, refl, sym, ap, ◌∙◌, arith}
use Rattle.std.specs.declared.cmp.Ordering.{Ordering}
use Rattle.std.specs.declared.cmp.Ordering.TheVariants as o
use Rattle.std.specs.Ordering.{int_cmp, ordering_then}
use Rattle.value.specs.Datum.{int}
use Rattle.value.specs.Orders.{compared, of_bool, is_true, datum_cmp, is_unknown}
use Rattle.value.specs.declared.order.Truth.{Truth}
use Rattle.columns.specs.Bits.{bit_of, IsMaskOf, words_for}
use Rattle.std.proofs.Math.Bool.{and-true, and-false}
use Rattle.std.proofs.lemmas.List.{length-map}
use Rattle.columns.specs.Columns.{int_unless, ints_of}
use Rattle.columns.specs.Comparing.{Show}
use Rattle.std.proofs.lemmas.Simd.{length-zip2}
use Rattle.value.proofs.Conditions.{true_bool}

and_equal : (x : Ordering) → ordering_then x o.Equal ≡ x
and_equal o.Less = refl
and_equal o.Equal = refl
and_equal o.Greater = refl

-- numbers are ordered as numbers
pub int_order : (y z : ℤ) → datum_cmp (int y) (int z) ≡ int_cmp y z
int_order y z = and_equal (int_cmp y z)

pub known : (b : Bool) → is_unknown (of_bool b) ≡ false
known true = refl
known false = refl

less : (a b : Bool) → min (cond a 1 0) (1 - cond b 1 0) ≡ cond (a && not b) 1 0
less true true = refl
less true false = refl
less false true = refl
less false false = refl

module _ (t : Ordering → Bool) (lit : ℤ) where
  true_bit : (zs : List ℤ) (bits : List Bool) (i : ℕ) → length bits ≡ length zs
      → get_or (map is_true (map (λ d. compared t d (int lit)) (ints_of zs bits))) i false ≡ (get_or (map (λ z. t (int_cmp z lit)) zs) i false && not (get_or bits i false))
  true_bit [] bits i e = refl
  true_bit (z ∷ zs) [] i e = absurd (omega arith)
  true_bit (z ∷ zs) (true ∷ bits) zero e = sym (and-false (t (int_cmp z lit)))
  true_bit (z ∷ zs) (false ∷ bits) zero e = true_bool (t (datum_cmp (int z) (int lit))) ∙ ap t (int_order z lit) ∙ sym (and-true (t (int_cmp z lit)))
  true_bit (z ∷ zs) (b ∷ bits) (suc i) e = true_bit zs bits i (omega arith)

  unknown_bit : (zs : List ℤ) (bits : List Bool) (i : ℕ) → length bits ≡ length zs
      → get_or (map is_unknown (map (λ d. compared t d (int lit)) (ints_of zs bits))) i false ≡ get_or bits i false
  unknown_bit [] [] i e = refl
  unknown_bit [] (b ∷ bits) i e = absurd (omega arith)
  unknown_bit (z ∷ zs) [] i e = absurd (omega arith)
  unknown_bit (z ∷ zs) (true ∷ bits) zero e = refl
  unknown_bit (z ∷ zs) (false ∷ bits) zero e = known (t (datum_cmp (int z) (int lit)))
  unknown_bit (z ∷ zs) (b ∷ bits) (suc i) e = unknown_bit zs bits i (omega arith)

  -- a comparison with a literal: true where it holds and the value is not null, and null where the value is
  pub compared_masks : (zs : List ℤ) (bits : List Bool) (nulls ws : List ℕ) → length bits ≡ length zs → IsMaskOf bits nulls → length ws ≡ words_for (length zs)
      → ((i : ℕ) → bit_of ws i ≡ min (cond (get_or (map (λ z. t (int_cmp z lit)) zs) i false) 1 0) (1 - bit_of nulls i))
      → Show (map (λ d. compared t d (int lit)) (ints_of zs bits)) ws nulls
  compared_masks zs bits nulls ws e mask long bits_are =
      let truths = map (λ d. compared t d (int lit)) (ints_of zs bits) in
      let many : (f : Truth → Bool) → length (map f truths) ≡ length zs = λ f. length-map truths f ∙ length-map (ints_of zs bits) (λ d. compared t d (int lit)) ∙ length-zip2 int_unless zs bits (sym e) in
      record {
        true_bits = record {
          long = long ∙ ap words_for (sym (many is_true));
          each = λ i. bits_are i ∙ ap (λ n. min (cond (get_or (map (λ z. t (int_cmp z lit)) zs) i false) 1 0) (1 - n)) (mask.each i)
              ∙ less (get_or (map (λ z. t (int_cmp z lit)) zs) i false) (get_or bits i false) ∙ sym (ap (λ b. cond b 1 0) (true_bit zs bits i e));
        };
        null_bits = record {
          long = mask.long ∙ ap words_for (e ∙ sym (many is_unknown));
          each = λ i. mask.each i ∙ sym (ap (λ b. cond b 1 0) (unknown_bit zs bits i e));
        };
      }
