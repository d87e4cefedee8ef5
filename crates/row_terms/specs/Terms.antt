-- Terms of the relational algebra over the entries of a query.
use Rattle.std.specs.Prelude.{ℕ, Bool, ◌==◌, ◌||◌, List, filter}
use Rattle.std.specs.List.{list_any, range_with_len}
use Rattle.expr.specs.Bound.{BoundExpr}

pub data Term : Type 0 where
  -- each row of an entry
  Raw : (entry : ℕ) → Term
  -- the combinations whose row of an entry its guard shows
  Guarded : (entry : ℕ) → (input : Term) → Term
  -- the combinations on which a condition is true
  Filtered : (condition : BoundExpr) → (input : Term) → Term
  -- each combination of the left side with each of the right
  Joined : (left right : Term) → Term
  -- each combination of the left side with those of the right on which the condition is true; where there is none, with the null rows
  -- of the right side's entries
  LeftJoined : (on : BoundExpr) → (left right : Term) → Term
  -- no combination, of these entries
  Empty : (entries : List ℕ) → Term

-- the term's combinations have a row, or the null row, of the entry
abbrev pub covers : Term → ℕ → Bool
covers (Raw own) entry = own == entry
covers (Guarded own x) entry = covers x entry
covers (Filtered e x) entry = covers x entry
covers (Joined x y) entry = covers x entry || covers y entry
covers (LeftJoined on x y) entry = covers x entry || covers y entry
covers (Empty entries) entry = list_any (λ i. i == entry) entries

-- the entries of a term, where there are so many
abbrev pub entries_in : ℕ → Term → List ℕ
entries_in count x = filter (covers x) (range_with_len 0 count)
