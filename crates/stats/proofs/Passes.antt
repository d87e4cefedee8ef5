-- The least number of a list in one pass.
use Rattle.std.proofs.Common.{◌≡◌, ℕ, ◌+◌, ◌<◌, ℤ, List, ◌∷◌, length, drop, get_or, sym, ap, ◌∙◌, Option, Some, Ordering}
use Rattle.std.specs.Cmp.{IsTotalOrder}
use Rattle.std.proofs.lemmas.List.{drop_more}
use Rattle.bags.specs.Least.{lesser, least}
use Rattle.bags.proofs.Least.{lesser_assoc}

-- the least number so far, with one more
pub least_next : (cmp : ℤ → ℤ → Ordering) → IsTotalOrder cmp → (numbers : List ℤ) (i : ℕ) (n : ℤ) (best after whole : Option ℤ) → i < length numbers → n ≡ get_or numbers i n → after ≡ lesser cmp best (Some n)
    → lesser cmp best (least cmp (drop i numbers)) ≡ whole → lesser cmp after (least cmp (drop (i + 1) numbers)) ≡ whole
least_next cmp total numbers i n best after whole lt is made so_far =
    let rest = drop (i + 1) numbers in
    ap (λ o. lesser cmp o (least cmp rest)) made
    ∙ lesser_assoc cmp total best (Some n) (least cmp rest)
    ∙ ap (λ (m : ℤ). lesser cmp best (least cmp (m ∷ rest))) is
    ∙ ap (λ (l : List ℤ). lesser cmp best (least cmp l)) (sym (drop_more numbers i n lt))
    ∙ so_far
