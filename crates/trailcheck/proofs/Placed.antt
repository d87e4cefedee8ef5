-- Lists of placed entries.
use Rattle.std.proofs.Common.{◌≡◌, ◌∙◌, refl, ℕ, Bool, true, false, ◌||◌, ◌==◌, List, [], ◌∷◌, ◌++◌}
use Rattle.std.proofs.lemmas.List.Folds.{list_any-append}
use Rattle.trailcheck.specs.Entries.{is_among}

last_first : (a b : Bool) → a || (b || false) ≡ b || a
last_first true true = refl
last_first true false = refl
last_first false true = refl
last_first false false = refl

-- a list with one entry more has that one and its others
pub among_more : (placed : List ℕ) (i k : ℕ) → is_among (placed ++ i ∷ []) k ≡ (i == k) || is_among placed k
among_more placed i k = list_any-append (λ j. j == k) placed (i ∷ []) ∙ last_first (is_among placed k) (i == k)
