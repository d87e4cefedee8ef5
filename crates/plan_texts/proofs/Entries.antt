-- The entry of a number, and its columns.
use Rattle.std.proofs.Common.{◌≡◌, ℕ, zero, suc, ◌-◌, ◌<◌, ◌≤◌, List, [], ◌∷◌, length, Some, None, slice_get, refl, arith}
use Rattle.std.specs.Prelude.{map, slice_index_or}
use Rattle.plan_texts.specs.declared.plan.PlanEntry.{PlanEntry}
use Rattle.plan_texts.specs.PlanTexts.{item_at}
use Rattle.plan_texts.specs.Reading.{columns_from, columns_at}
use Rattle.plan_texts.specs.View.{plan_entry_of}

columns_found : {A : Type 0} (entries : List (PlanEntry A)) (index : ℕ) (other : PlanEntry A) → index < length entries → columns_from (map plan_entry_of entries) index ≡ (slice_index_or entries index other).columns
columns_found [] index other l = absurd (omega arith)
columns_found (x ∷ xs) zero other l = refl
columns_found (x ∷ xs) (suc index) other l = columns_found xs index other (omega arith)

no_columns : {A : Type 0} (entries : List (PlanEntry A)) (index : ℕ) → length entries ≤ index → columns_from (map plan_entry_of entries) index ≡ []
no_columns [] index l = refl
no_columns (x ∷ xs) zero l = absurd (omega arith)
no_columns (x ∷ xs) (suc index) l = no_columns xs index (omega arith)

module _ {A : Type 0} (entries : List (PlanEntry A)) where
  pub columns_of : (entry : ℕ) (other : PlanEntry A) → (entry ≡ 0 → ⊥) → entry - 1 < length entries → columns_at (map plan_entry_of entries) entry ≡ (slice_index_or entries (entry - 1) other).columns
  columns_of zero other some l = absurd (some refl)
  columns_of (suc index) other some l = let same : suc index - 1 ≡ index = omega arith in rw same (columns_found entries index other (omega (arith, same, l)))

  pub none_of : (entry : ℕ) → (entry ≡ 0 → ⊥) → length entries ≤ entry - 1 → columns_at (map plan_entry_of entries) entry ≡ []
  none_of zero some l = absurd (some refl)
  none_of (suc index) some l = no_columns entries index (let same : suc index - 1 ≡ index = omega arith in omega (arith, same, l))

-- ---- the entry

found_at : {A : Type 0} (entries : List (PlanEntry A)) (index : ℕ) (other : PlanEntry A) → index < length entries → slice_get (map plan_entry_of entries) index ≡ Some (plan_entry_of (slice_index_or entries index other))
found_at [] index other l = absurd (omega arith)
found_at (x ∷ xs) zero other l = refl
found_at (x ∷ xs) (suc index) other l = found_at xs index other (omega arith)

none_at : {A : Type 0} (entries : List (PlanEntry A)) (index : ℕ) → length entries ≤ index → slice_get (map plan_entry_of entries) index ≡ None
none_at [] index l = refl
none_at (x ∷ xs) zero l = absurd (omega arith)
none_at (x ∷ xs) (suc index) l = none_at xs index (omega arith)

module _ {A : Type 0} (entries : List (PlanEntry A)) where
  pub entry_is : (entry : ℕ) (other : PlanEntry A) → (entry ≡ 0 → ⊥) → entry - 1 < length entries → item_at (map plan_entry_of entries) entry ≡ Some (plan_entry_of (slice_index_or entries (entry - 1) other))
  entry_is zero other some l = absurd (some refl)
  entry_is (suc index) other some l = let same : suc index - 1 ≡ index = omega arith in rw same (found_at entries index other (omega (arith, same, l)))

  pub no_entry : (entry : ℕ) → (entry ≡ 0 → ⊥) → length entries ≤ entry - 1 → item_at (map plan_entry_of entries) entry ≡ None
  no_entry zero some l = absurd (some refl)
  no_entry (suc index) some l = none_at entries index (let same : suc index - 1 ≡ index = omega arith in omega (arith, same, l))
