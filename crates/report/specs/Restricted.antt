-- Rows restricted to the columns that a query names.
use Rattle.std.specs.Prelude.{◌≡◌, ℕ, ◌==◌, List, [], map, filter, length, slice_index_or, IsPermutation}
use Rattle.value.specs.Datum.{Row}
use Rattle.value.specs.Restricted.{restricted}
use Rattle.expr.specs.declared.bound.ColumnId.{ColumnId}
use Rattle.expr.specs.BoundQuery.{BoundQuery}
use Rattle.expr.specs.NamedColumns.{named_columns}

-- of some columns those of an entry
abbrev pub columns_at : (entry : ℕ) → List ColumnId → List ℕ
columns_at entry ids = map (λ id. id.column) (filter (λ id. id.entry == entry) ids)

-- of the columns that a query names those of an entry
abbrev pub named_in : BoundQuery → ℕ → List ℕ
named_in q entry = columns_at entry (named_columns q)

-- for each entry the rows, restricted to the columns of the entry that the query names, are the same bag
pub record SeesSame (q : BoundQuery) (one other : List (List Row)) : Type 0 where
  pub entries : length one ≡ length other
  pub rows : (entry : ℕ) → IsPermutation (map (restricted (named_in q entry)) (slice_index_or one entry [])) (map (restricted (named_in q entry)) (slice_index_or other entry []))
