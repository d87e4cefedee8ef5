-- Rows restricted to some columns.
use Rattle.std.specs.Prelude.{◌≡◌, ℕ, ◌+◌, ◌==◌, Bool, true, if◌then◌else◌, List, [], ◌∷◌}
use Rattle.std.specs.List.{list_any}
use Rattle.value.specs.Datum.{null, Row}

-- the column is one of the list
abbrev pub is_one_of : List ℕ → ℕ → Bool
is_one_of columns column = list_any (λ c. c == column) columns

-- each column of the first list is one of the second
abbrev pub IsWithin : List ℕ → List ℕ → Type 0
IsWithin some all = (column : ℕ) → is_one_of some column ≡ true → is_one_of all column ≡ true

-- the row from an index on, with the columns outside the list blank
abbrev pub kept_from : ℕ → List ℕ → Row → Row
kept_from i columns [] = []
kept_from i columns (d ∷ ds) = (if is_one_of columns i then d else null) ∷ kept_from (i + 1) columns ds

-- the row, restricted to these columns
abbrev pub restricted : List ℕ → Row → Row
restricted columns row = kept_from 0 columns row
