-- The entries that conditions name.
use Rattle.std.specs.Prelude.{ℕ, Bool, not, nat_le, nat_lt, ◌==◌, ◌&&◌, ◌||◌, List, length}
use Rattle.std.specs.List.{list_all, list_any}
use Rattle.expr.specs.Bound.{BoundExpr}
use Rattle.expr.specs.Columns.{columns}

-- the entry is one of the list
abbrev pub is_among : List ℕ → ℕ → Bool
is_among entries i = list_any (λ j. j == i) entries

-- some column of the condition is of the entry
abbrev pub names_entry : BoundExpr → ℕ → Bool
names_entry e i = list_any (λ id. id.entry == i) (columns e)

-- some column of the condition is of an entry of the list
abbrev pub names_some : BoundExpr → List ℕ → Bool
names_some e entries = list_any (λ id. is_among entries id.entry) (columns e)

-- it names no other entry than that and those of the list
abbrev pub names_within : BoundExpr → List ℕ → ℕ → Bool
names_within e entries i = list_all (λ id. (id.entry == i) || is_among entries id.entry) (columns e)

-- it names the entry, and no other
abbrev pub only_of : BoundExpr → ℕ → Bool
only_of e i = names_entry e i && list_all (λ id. id.entry == i) (columns e)

-- it names the entry and some of the list, and no other
abbrev pub joins : BoundExpr → List ℕ → ℕ → Bool
joins e entries i = (names_entry e i && names_some e entries) && names_within e entries i

-- it names the entry, and no later one
abbrev pub completes : ℕ → BoundExpr → Bool
completes i e = names_entry e i && list_all (λ id. nat_le id.entry i) (columns e)

-- it names no entry
abbrev pub names_none : BoundExpr → Bool
names_none e = length (columns e) == 0

-- it names entries, and only the first so many
abbrev pub is_over : ℕ → BoundExpr → Bool
is_over count e = not (names_none e) && list_all (λ id. nat_lt id.entry count) (columns e)
