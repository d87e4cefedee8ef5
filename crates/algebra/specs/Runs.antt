-- The filters that stand one on another, the entries of a term, and those of a condition.
use Rattle.std.specs.Prelude.{ℕ, Bool, ◌==◌, ◌&&◌, nat_le, List, [], ◌∷◌}
use Rattle.std.specs.List.{list_all, list_any}
use Rattle.expr.specs.Bound.{BoundExpr}
use Rattle.expr.specs.Columns.{columns}
use Rattle.predicates.specs.Same.{same}
use Rattle.row_terms.specs.Terms.{Term, Raw, Guarded, Filtered, Joined, LeftJoined, Empty, covers, entries_in}

-- the conditions of the filters from the node downward without a gap, numbered from 0
abbrev pub run : Term → List BoundExpr
run (Filtered e x) = e ∷ run x
run _ = []

-- the condition is one of the run
abbrev pub stands_in : BoundExpr → List BoundExpr → Bool
stands_in e es = list_any (same e) es

-- each entry that the condition names is one of the term
abbrev pub reads_only : Term → BoundExpr → Bool
reads_only x e = list_all (λ id. covers x id.entry) (columns e)

-- it names no entry after that
abbrev pub reads_up_to : ℕ → BoundExpr → Bool
reads_up_to entry e = list_all (λ id. nat_le id.entry entry) (columns e)

-- no other entry is one of the term
abbrev pub no_other : ℕ → Term → Bool
no_other entry (Raw own) = own == entry
no_other entry (Guarded own x) = no_other entry x
no_other entry (Filtered e x) = no_other entry x
no_other entry (Joined x y) = no_other entry x && no_other entry y
no_other entry (LeftJoined on x y) = no_other entry x && no_other entry y
no_other entry (Empty entries) = list_all (λ i. i == entry) entries

-- the entry is the only one of the term
abbrev pub is_only : ℕ → Term → Bool
is_only entry x = covers x entry && no_other entry x

-- no combination, of the entries of a term, where there are so many
abbrev pub emptied : ℕ → Term → Term
emptied count x = Empty (entries_in count x)
