-- The records that a reader has left.
use Rattle.std.specs.Prelude.{ℕ, ◌≡◌, ◌≢◌, ◌+◌, ◌-◌, ◌^◌, min, if◌then◌else◌, Bool, true, false, List, [], ◌∷◌, length, Option, None, Some, IfSome, ⊤}
use Rattle.csv.specs.Reading.{records, records_from, strip_bom, default_config}
use Rattle.csv.specs.declared.parser.State.{State}
use Rattle.csv_records.specs.declared.RecordError.{RecordError}
use Rattle.csv_records.specs.declared.RecordError.TheVariants.{Uneven, Failed}
use Rattle.memory.specs.declared.failure.Failure.{Failure}
use Rattle.memory.specs.declared.failure.Failure.TheVariants.{Error, OutOfMemory}

-- the records of a text; a byte order mark at its start is no part of them
abbrev pub records_of : List ℕ → List (List (List ℕ))
records_of bytes = records default_config (strip_bom bytes)

-- the records that are left, where they are known, the fields of the record read last, the number of fields that each must
-- have, once there was one, the number of records given, and the failure of a read, if there was one
pub record Left : Type 0 where
  pub records : Option (List (List (List ℕ)))
  pub fields : List (List ℕ)
  pub expected : Option ℕ
  pub given : ℕ
  pub failure : Option (Failure RecordError)

-- the records of a text that is read from a state on
abbrev pub records_after : State → List ℕ → List (List (List ℕ))
records_after s xs = records_from default_config (length xs + 1) s xs

-- the failure that is kept after an error: a record of another length is none
abbrev pub failure_after : Failure RecordError → Option (Failure RecordError)
failure_after (Error Uneven) = None
failure_after (Error Failed) = Some (Error Failed)
failure_after OutOfMemory = Some OutOfMemory

-- the error is one that is kept
abbrev pub IsKept : Failure RecordError → Type 0
IsKept e = failure_after e ≡ Some e

-- the number of fields is the expected one, if one is
abbrev pub Fits_length : Option ℕ → ℕ → Type 0
Fits_length expected n = IfSome expected (λ e. n ≡ e)

-- a read took the first of the records, or found that there is none
abbrev pub TakesFirst : Option (List (List (List ℕ))) → Option (List (List (List ℕ))) → Bool → List (List ℕ) → Type 0
TakesFirst None after found fields = ⊤
TakesFirst (Some []) after found fields = found ≡ false
TakesFirst (Some (r ∷ rs)) after found fields = (found ≡ true) × (fields ≡ r) × (after ≡ Some rs)

-- the same, and the record has the expected number of fields, which the later ones must have too
abbrev pub TakesNext : Left → Left → Bool → List (List ℕ) → Type 0
TakesNext old new found fields = TakesFirst old.records new.records found fields
    × (found ≡ true → Fits_length old.expected (length fields) × (new.expected ≡ Some (length fields)))

-- the number of records given, after a read that gave one or found none; it stays at the greatest number of 64 bits
abbrev pub counted : Bool → ℕ → ℕ
counted found n = if found then min (n + 1) (2 ^ 64 - 1) else n

-- of records that are known there is a first one, and its number of fields is another
abbrev pub FirstHasOther : Option (List (List (List ℕ))) → ℕ → Type 0
FirstHasOther None n = ⊤
FirstHasOther (Some []) n = ⊥
FirstHasOther (Some (r ∷ rs)) n = length r ≢ n

-- the next record has another number of fields than those before it
abbrev pub NextIsUneven : Left → Type 0
NextIsUneven left = (n : ℕ) × (left.expected ≡ Some n) × FirstHasOther left.records n

-- of records that are known, those after the first are left
abbrev pub TailIsLeft : Option (List (List (List ℕ))) → Option (List (List (List ℕ))) → Type 0
TailIsLeft None after = ⊤
TailIsLeft (Some []) after = ⊥
TailIsLeft (Some (r ∷ rs)) after = after ≡ Some rs

-- one record was passed over, and the later ones must have as many fields as before
abbrev pub SkipsOne : Left → Left → Type 0
SkipsOne old new = TailIsLeft old.records new.records × (new.expected ≡ old.expected)
