-- The last line of bytes.
use Rattle.std.proofs.Common.{◌≡◌, ℕ, Bool, true, false, List, [], ◌∷◌, refl, sym, ap, if◌then◌else◌}
use Rattle.std.specs.List.{list_any}
use Rattle.diagnostics.specs.Carets.{is_end, last_line}

last_of_either : (b : ℕ) (bs : List ℕ) (any : Bool) → list_any is_end (b ∷ bs) ≡ any → (if any then last_line (b ∷ bs) else b ∷ bs) ≡ last_line (b ∷ bs)
last_of_either b bs true is = refl
last_of_either b bs false is = sym (ap (λ t. if t then last_line bs else b ∷ bs) is)

-- bytes without an end of a line are their last line
pub last_of : (bs : List ℕ) → (if list_any is_end bs then last_line bs else bs) ≡ last_line bs
last_of [] = refl
last_of (b ∷ bs) = last_of_either b bs (list_any is_end (b ∷ bs)) refl
