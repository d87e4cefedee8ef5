-- The null rows of entries.
use Rattle.std.proofs.Common.{◌≡◌, ◌⊎◌, inl, inr, ℕ, zero, suc, Bool, true, false, ◌==◌, eqb-true, List, [], ◌∷◌, refl, sym, ap, ◌∙◌}
use Rattle.std.specs.List.{list_any}
use Rattle.tuples.specs.declared.slot.Slot.{Slot}
use Rattle.tuples.specs.declared.slot.Slot.TheVariants.{Absent, NullRow, Row}
use Rattle.tuples.specs.Slots.{slot_at, lone_null, or_else, joined}
use Rattle.row_terms.specs.Means.{null_rows}

or_absent : (p : Slot) → or_else p Absent ≡ p
or_absent Absent = refl
or_absent NullRow = refl
or_absent (Row row) = refl

slot_of_joined : (xs ys : List Slot) (i : ℕ) → slot_at (joined xs ys) i ≡ or_else (slot_at xs i) (slot_at ys i)
slot_of_joined [] ys i = refl
slot_of_joined (x ∷ xs) [] i = sym (or_absent (slot_at (x ∷ xs) i))
slot_of_joined (x ∷ xs) (y ∷ ys) zero = refl
slot_of_joined (x ∷ xs) (y ∷ ys) (suc i) = slot_of_joined xs ys i

null_has : (i : ℕ) → slot_at (lone_null i) i ≡ NullRow
null_has zero = refl
null_has (suc i) = null_has i

-- a slot of null rows is the null row or absent
abbrev IsNull : Slot → Type 0
IsNull s = (s ≡ NullRow) ⊎ (s ≡ Absent)

slot_of_null : (k i : ℕ) → IsNull (slot_at (lone_null k) i)
slot_of_null zero zero = inl refl
slot_of_null zero (suc i) = inr refl
slot_of_null (suc k) zero = inr refl
slot_of_null (suc k) (suc i) = slot_of_null k i

null_or : (s t : Slot) → IsNull s → t ≡ NullRow → or_else s t ≡ NullRow
null_or s t (inl e) h = ap (λ p. or_else p t) e
null_or s t (inr e) h = ap (λ p. or_else p t) e ∙ h

-- the null row is in the slot of each of the entries
pub slot_of_nulls : (is : List ℕ) (i : ℕ) → list_any (λ k. k == i) is ≡ true → slot_at (null_rows is) i ≡ NullRow
slot_of_nulls [] i h = absurd (cc)
slot_of_nulls (k ∷ is) i h = slot_of_joined (lone_null k) (null_rows is) i ∙ go (k == i) refl (slot_of_nulls is i)
  where
    go : (b : Bool) → (k == i) ≡ b → (list_any (λ j. j == i) is ≡ true → slot_at (null_rows is) i ≡ NullRow) → or_else (slot_at (lone_null k) i) (slot_at (null_rows is) i) ≡ NullRow
    go true e later = ap (λ s. or_else s (slot_at (null_rows is) i)) (ap (λ j. slot_at (lone_null j) i) (eqb-true k i e) ∙ null_has i)
    go false e later = null_or (slot_at (lone_null k) i) (slot_at (null_rows is) i) (slot_of_null k i) (later (rw e at h))
