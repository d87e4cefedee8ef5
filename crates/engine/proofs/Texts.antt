-- Texts made of parts.
use Rattle.std.proofs.Common.{◌≡◌, ℕ, List, ◌++◌, append_assoc}

pub three_parts : (A B C o p q r : List ℕ) → p ≡ o ++ A → q ≡ p ++ B → r ≡ q ++ C → r ≡ o ++ (A ++ B ++ C)
three_parts A B C o p q r a b c = rw (c, b, a) (simp append_assoc)

pub five_parts : (A B C D E o p q r s t : List ℕ) → p ≡ o ++ A → q ≡ p ++ B → r ≡ q ++ C → s ≡ r ++ D → t ≡ s ++ E → t ≡ o ++ (A ++ B ++ C ++ D ++ E)
five_parts A B C D E o p q r s t a b c d e = rw (e, d, c, b, a) (simp append_assoc)
