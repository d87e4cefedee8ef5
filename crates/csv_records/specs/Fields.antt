-- Fields that lie one after the other, with one byte between them.
use Rattle.std.specs.Prelude.{ℕ, zero, suc, ◌+◌, ◌≤◌, List, [], ◌∷◌, get_or, slice_range, ⊤}

-- from an offset on, the fields that end at these offsets; each but the first starts one byte after the end of the one before
unfoldable pub fields_from : List ℕ → ℕ → List ℕ → List (List ℕ)
fields_from bytes start [] = []
fields_from bytes start (end ∷ ends) = slice_range bytes start end ∷ fields_from bytes (end + 1) ends

-- the offset at which the next field starts
unfoldable pub start_after : ℕ → List ℕ → ℕ
start_after start [] = start
start_after start (end ∷ ends) = start_after (end + 1) ends

-- no field ends before its start, nor after so many bytes
unfoldable pub EndsWithin : ℕ → ℕ → List ℕ → Type 0
EndsWithin len start [] = ⊤
EndsWithin len start (end ∷ ends) = (start ≤ end) × (end ≤ len) × EndsWithin len (end + 1) ends

-- the offset at which the field at an index starts
unfoldable pub start_of : ℕ → List ℕ → ℕ → ℕ
start_of start ends zero = start
start_of start ends (suc i) = get_or ends i 0 + 1
