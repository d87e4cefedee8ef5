-- The test if two terms are the same.
use Rattle.std.specs.Prelude.{◌≡◌, ℕ, Bool, true, false, ◌==◌, ◌&&◌, List, [], ◌∷◌}
use Rattle.predicates.specs.Operands.{Decides}
use Rattle.predicates.specs.Same.{same}
use Rattle.row_terms.specs.Terms.{Term, Raw, Guarded, Filtered, Joined, LeftJoined, Empty}

-- the same entries in the same order
abbrev pub same_entries : List ℕ → List ℕ → Bool
same_entries [] [] = true
same_entries (i ∷ is) (j ∷ js) = (i == j) && same_entries is js
same_entries _ _ = false

abbrev pub same_term : Term → Term → Bool
same_term (Raw i) (Raw j) = i == j
same_term (Guarded i x) (Guarded j y) = (i == j) && same_term x y
same_term (Filtered e x) (Filtered f y) = same e f && same_term x y
same_term (Joined x y) (Joined u v) = same_term x u && same_term y v
same_term (LeftJoined e x y) (LeftJoined f u v) = same e f && (same_term x u && same_term y v)
same_term (Empty is) (Empty js) = same_entries is js
same_term _ _ = false

-- the test says whether two terms are equal
abbrev pub SameTermIsEqual : Type 0
SameTermIsEqual = (x y : Term) → Decides (same_term x y) (x ≡ y)
