-- The shared parts of statements: checks in order, and one table changed.
use Rattle.std.specs.Prelude.{◌≡◌, ℕ, Bool, nat_le, List, [], ◌∷◌, length, Option, Some, None, Result, Ok, Err, if◌then◌else◌}
use Rattle.std.specs.Str.{bytes_eq}
use Rattle.value.specs.declared.refusal.Refusal.{Refusal}
use Rattle.value.specs.Names.{Name}
use Rattle.row_objects.specs.Objects.{Table}
use Rattle.catalog.specs.Catalog.{Catalog}
pub use Rattle.catalog.specs.PredicateChecks.{Check, first_refusal}

-- ---- checks

-- a function of the thing that was found; else the other
abbrev pub if_found : {X Y : Type 0} → Y → (X → Y) → Option X → Y
if_found other f None = other
if_found other f (Some x) = f x

-- the list has as many members as it may have
abbrev pub is_full : {X : Type 0} → ℕ → List X → Bool
is_full most xs = nat_le most (length xs)

-- the checks found a refusal, or none and the index of the table
abbrev pub Checked : Result ℕ Refusal → Option Refusal → Option ℕ → Type 0
Checked (Err why) refusal index = refusal ≡ Some why
Checked (Ok i) refusal index = (refusal ≡ None) × (index ≡ Some i)

-- the catalogue after a statement, unless it is refused
abbrev pub unless : Option Refusal → Catalog → Result Catalog Refusal
unless (Some why) cat = Err why
unless None cat = Ok cat

-- ---- changes

-- the first of that kind, changed
abbrev pub first_changed : {E : Type 0} → (E → Bool) → (E → E) → List E → List E
first_changed p f [] = []
first_changed p f (e ∷ es) = if p e then f e ∷ es else e ∷ first_changed p f es

abbrev pub with_table : Catalog → Name → (Table → Table) → Catalog
with_table cat name f = record cat { tables = first_changed (λ t. bytes_eq name t.name) f cat.tables }
