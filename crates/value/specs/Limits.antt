-- The limits of a query that its text, its plans and its rows have in common.
use Rattle.std.specs.Prelude.{ℕ}

-- the most tables of FROM
abbrev pub most_entries : ℕ
most_entries = 12

-- the most conjuncts of ON and WHERE together, and of a planning list
abbrev pub most_conjuncts : ℕ
most_conjuncts = 64
