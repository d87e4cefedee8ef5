-- A byte once more.
use Rattle.std.proofs.Common.{◌≡◌, ℕ, ◌+◌, [], ◌∷◌, ◌++◌, replicate}
use Rattle.std.proofs.lemmas.List.{replicate-append-replicate}

pub one_more : (k b : ℕ) → replicate k b ++ b ∷ [] ≡ replicate (k + 1) b
one_more k b = replicate-append-replicate k 1 b
