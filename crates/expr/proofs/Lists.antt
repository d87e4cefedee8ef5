-- A test of what the elements of a list give.
use Rattle.std.proofs.Common.{◌≡◌, Bool, ◌||◌, List, [], ◌∷◌, map, refl, ap}
use Rattle.std.specs.List.{list_any}

pub any_map : {E T : Type 0} (p : T → Bool) (f : E → T) (es : List E) → list_any p (map f es) ≡ list_any (λ e. p (f e)) es
any_map p f [] = refl
any_map p f (e ∷ es) = ap (λ b. p (f e) || b) (any_map p f es)
