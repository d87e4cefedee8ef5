-- Orderings by their cases.
use Rattle.std.proofs.Common.{◌≡◌, true, false, true≢false, Ordering, Less, Equal, Greater, is_gt, is_lt, refl, sym}
use Rattle.std.specs.Ordering.{ordering_reverse}

pub not_less_back : (o : Ordering) → is_lt o ≡ false → is_gt (ordering_reverse o) ≡ false
not_less_back Less h = h
not_less_back Equal h = refl
not_less_back Greater h = refl

pub not_greater_back : (o : Ordering) → is_gt o ≡ false → is_lt (ordering_reverse o) ≡ false
not_greater_back Less h = refl
not_greater_back Equal h = refl
not_greater_back Greater h = absurd (true≢false h)

pub is_greater : (o : Ordering) → is_gt o ≡ true → o ≡ Greater
is_greater Less e = absurd (true≢false (sym e))
is_greater Equal e = absurd (true≢false (sym e))
is_greater Greater e = refl
