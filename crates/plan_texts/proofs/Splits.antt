-- The parts of a text that the code finds by a first space, a first dot or a last minus.
use Rattle.std.proofs.Common.{◌≡◌, ◌≢◌, ℕ, suc, ◌==◌, ◌<◌, Bool, true, false, get_or, List, [], ◌∷◌, ◌++◌, length, Option, Some, None, refl, sym, ap, ◌∙◌, arith}
use denote.Ref.{Bor}
use Rattle.std.specs.Prelude.{option_map}
use Rattle.std.specs.List.{slice_split}
use Rattle.std.proofs.lemmas.Bool.{ne_eqb}
use Rattle.std.proofs.lemmas.List.Splits.{length-slice_split}
use Rattle.std.proofs.lemmas.Str.Pattern.{IsSplitOnceResult, split_parts}
use Rattle.value.specs.Numbers.{number_at}
use Rattle.plan_texts.specs.Reading.{cut, last_minus, but_last, rule_at}
use Rattle.plan_texts.specs.View.{pair_of, two_of}
use Rattle.plan_texts.proofs.Pieces.{Lacks, cut_at, split_at, split_none, minus_last, without_minus, with_minus}

lacks_from : (c : ℕ) (bs : List ℕ) → ((i : ℕ) → i < length bs → get_or bs i 0 ≢ c) → Lacks (λ b. b == c) bs
lacks_from c [] h = tt
lacks_from c (b ∷ bs) h = (ne_eqb b c (h 0 (omega arith)), lacks_from c bs (λ i l. h (suc i) (omega arith)))

cut_nothing : (bs : List ℕ) → Lacks (λ b. b == 32) bs → cut bs ≡ None
cut_nothing [] l = refl
cut_nothing (b ∷ bs) l = rw (l.0, cut_nothing bs l.1) refl

pub cut_is : (bs : List ℕ) (r : Option (Bor (List ℕ) × Bor (List ℕ))) → IsSplitOnceResult 32 bs r → option_map pair_of r ≡ cut bs
cut_is bs None s = sym (cut_nothing bs (lacks_from 32 bs (split_parts 32 bs None s (omega arith))))
cut_is bs (Some x) s = let m = split_parts 32 bs (Some x) s (omega arith) in sym (ap cut m.0 ∙ cut_at x.0.now x.1.now (lacks_from 32 x.0.now m.1))

-- ---- two names

more_than_two : (a b : List ℕ) (ps : List (List ℕ)) → 0 < length ps → two_of (a ∷ b ∷ ps) ≡ None
more_than_two a b [] l = absurd (omega arith)
more_than_two a b (p ∷ ps) l = refl

abbrev dot : ℕ → Bool
dot b = b == 46

pub no_dot : (bs : List ℕ) → IsSplitOnceResult 46 bs None → None ≡ two_of (slice_split dot bs)
no_dot bs s = sym (ap two_of (split_none dot bs (lacks_from 46 bs (split_parts 46 bs None s (omega arith)))))

first_dot : (bs : List ℕ) (x : Bor (List ℕ) × Bor (List ℕ)) → IsSplitOnceResult 46 bs (Some x) → slice_split dot bs ≡ x.0.now ∷ slice_split dot x.1.now
first_dot bs x s = let m = split_parts 46 bs (Some x) s (omega arith) in ap (slice_split dot) m.0 ∙ split_at dot x.0.now 46 x.1.now (lacks_from 46 x.0.now m.1) refl

pub one_dot : (bs : List ℕ) (x : Bor (List ℕ) × Bor (List ℕ)) → IsSplitOnceResult 46 bs (Some x) → IsSplitOnceResult 46 x.1.now None → Some (pair_of x) ≡ two_of (slice_split dot bs)
one_dot bs x s t = sym (ap two_of (first_dot bs x s ∙ ap (λ ps. x.0.now ∷ ps) (split_none dot x.1.now (lacks_from 46 x.1.now (split_parts 46 x.1.now None t (omega arith))))))

pub two_dots : (bs : List ℕ) (x y : Bor (List ℕ) × Bor (List ℕ)) → IsSplitOnceResult 46 bs (Some x) → IsSplitOnceResult 46 x.1.now (Some y) → None ≡ two_of (slice_split dot bs)
two_dots bs x y s t =
    sym (ap two_of (first_dot bs x s ∙ ap (λ ps. x.0.now ∷ ps) (first_dot x.1.now y t)) ∙ more_than_two x.0.now y.0.now (slice_split dot y.1.now) (let size = length-slice_split dot y.1.now in omega arith))

-- ---- rules

abbrev pub rule_with : Bool → ℕ → ℕ × Bool
rule_with reverse n = (n, reverse)

pub reverse_rule : (part w : List ℕ) → part ≡ w ++ 45 ∷ [] → rule_at part ≡ option_map (rule_with true) (number_at w)
reverse_rule part w e = ap rule_at e ∙ rw (minus_last w) (ap (λ bs. option_map (rule_with true) (number_at bs)) (without_minus w))

pub forward_rule : (part : List ℕ) → ((front : List ℕ) → part ≢ front ++ 45 ∷ []) → rule_at part ≡ option_map (rule_with false) (number_at part)
forward_rule part never = go (last_minus part) refl
  where
    go : (b : Bool) → last_minus part ≡ b → rule_at part ≡ option_map (rule_with false) (number_at part)
    go true e = absurd (never (but_last part) (sym (with_minus part e)))
    go false e = rw e refl
