-- Bytes that go out after others.
use Rattle.std.proofs.Common.{ℕ, ◌≡◌, List, ◌++◌, Option, None, Some, ap, ◌∙◌}
use Rattle.std.proofs.lemmas.List.{append_assoc}
use Rattle.std.specs.Io.KnownBytes.{Appends}

pub appends_more : (a b c : Option (List ℕ)) (xs ys zs : List ℕ) → Appends a b xs → Appends b c ys → xs ++ ys ≡ zs → Appends a c zs
appends_more None b c xs ys zs h k e = tt
appends_more (Some x) None c xs ys zs h k e = absurd h
appends_more (Some x) (Some y) None xs ys zs h k e = absurd k
appends_more (Some x) (Some y) (Some z) xs ys zs h k e = k ∙ rw h (append_assoc x xs ys ∙ ap (λ t. x ++ t) e)
