-- The parts of a line.
use Rattle.std.proofs.Common.{◌≡◌, ℕ, ◌==◌, Bool, true, false, List, [], ◌∷◌, ◌++◌, codes, Some, refl, sym, ap, arith}
use Rattle.std.specs.Prelude.{option_map}
use Rattle.std.specs.List.{list_all, slice_split, onto_first}
use Rattle.std.proofs.lemmas.Bool.{and_parts, eqb-true}
use Rattle.std.proofs.lemmas.Bool.Decides.{nat_tests}
use Rattle.row_tokens.specs.Tokens.{goes_on}
use Rattle.plan_texts.specs.Reading.{cut, last_minus, but_last}

-- no byte passes a test
abbrev pub Lacks : (ℕ → Bool) → List ℕ → Type 0
Lacks p [] = Unit {0}
Lacks p (b ∷ bs) = (p b ≡ false) × Lacks p bs

pub split_at : (p : ℕ → Bool) (w : List ℕ) (c : ℕ) (more : List ℕ) → Lacks p w → p c ≡ true → slice_split p (w ++ c ∷ more) ≡ w ∷ slice_split p more
split_at p [] c more l e = rw e refl
split_at p (b ∷ w) c more l e = rw l.0 (ap (onto_first b) (split_at p w c more l.1 e))

pub split_none : (p : ℕ → Bool) (w : List ℕ) → Lacks p w → slice_split p w ≡ w ∷ []
split_none p [] l = refl
split_none p (b ∷ w) l = rw l.0 (ap (onto_first b) (split_none p w l.1))

pub cut_at : (w more : List ℕ) → Lacks (λ b. b == 32) w → cut (w ++ 32 ∷ more) ≡ Some (w, more)
cut_at [] more l = refl
cut_at (b ∷ w) more l = rw l.0 (ap (λ o. option_map (λ (p : List ℕ × List ℕ). let q : List ℕ × List ℕ = (b ∷ p.0, p.1) in q) o) (cut_at w more l.1))

blankless : (b : ℕ) → goes_on b ≡ true → (b == 32) ≡ false
blankless b e = grind (arith, nat_tests)

dotless : (b : ℕ) → goes_on b ≡ true → (b == 46) ≡ false
dotless b e = grind (arith, nat_tests)

pub word_lacks_blank : (w : List ℕ) → list_all goes_on w ≡ true → Lacks (λ b. b == 32) w
word_lacks_blank [] all = tt
word_lacks_blank (b ∷ w) all = let both = and_parts (goes_on b) (list_all goes_on w) all in (blankless b both.0, word_lacks_blank w both.1)

pub word_lacks_dot : (w : List ℕ) → list_all goes_on w ≡ true → Lacks (λ b. b == 46) w
word_lacks_dot [] all = tt
word_lacks_dot (b ∷ w) all = let both = and_parts (goes_on b) (list_all goes_on w) all in (dotless b both.0, word_lacks_dot w both.1)

-- ---- a minus at the end

pub minus_last : (w : List ℕ) → last_minus (w ++ 45 ∷ []) ≡ true
minus_last [] = refl
minus_last (b ∷ []) = refl
minus_last (b ∷ c ∷ w) = minus_last (c ∷ w)

pub without_minus : (w : List ℕ) → but_last (w ++ 45 ∷ []) ≡ w
without_minus [] = refl
without_minus (b ∷ []) = refl
without_minus (b ∷ c ∷ w) = ap (λ x. b ∷ x) (without_minus (c ∷ w))

pub with_minus : (t : List ℕ) → last_minus t ≡ true → but_last t ++ codes "-" ≡ t
with_minus [] e = cc
with_minus (b ∷ []) e = ap (λ c. c ∷ []) (sym (eqb-true b 45 e))
with_minus (b ∷ c ∷ bs) e = ap (λ v. b ∷ v) (with_minus (c ∷ bs) e)
