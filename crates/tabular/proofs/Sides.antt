-- The side of the next column.
use Rattle.std.proofs.Common.{◌≡◌, ℕ, ◌+◌, ◌<◌, List, [], ◌∷◌, length, drop}
use Rattle.std.proofs.lemmas.List.{at_drop_more}
use Rattle.value.specs.Datum.{Row}
use Rattle.tabular.specs.ReplyTables.{has_number, sides_from}

pub next_side : (j : ℕ) (headings : List (List ℕ)) (rows : List Row) → j < length headings
    → sides_from j (drop j headings) rows ≡ has_number j rows ∷ sides_from (j + 1) (drop (j + 1) headings) rows
next_side j headings rows low = at_drop_more (λ left. sides_from j left rows) headings j [] low
