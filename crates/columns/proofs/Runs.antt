-- Texts in one run of bytes.
use Rattle.std.proofs.Common.{◌≡◌, ℕ, zero, suc, ◌+◌, ◌-◌, ◌<◌, ◌≤◌, List, [], ◌∷◌, ◌++◌, length, take, drop, get_or, refl, sym, ap, subst, ◌∙◌, arith}
use Rattle.std.proofs.lemmas.List.{drop-append-le, take-append-le, take_all, length-drop, length-take-le, take-append-drop}
use Rattle.std.proofs.Math.Seq.{drop-append_seam}
use Rattle.std.specs.List.{slice_range}
use Rattle.columns.specs.Columns.{texts_from}
use Rattle.columns.specs.Ends.{end_before}
use Rattle.columns.specs.View.{EndsAscend}

-- ---- a part of a list

part_of_front : (xs ys : List ℕ) (a b : ℕ) → a ≤ b → b ≤ length xs → slice_range (xs ++ ys) a b ≡ slice_range xs a b
part_of_front xs ys a b ordered le =
    ap (take (b - a)) (drop-append-le a xs ys (omega arith)) ∙ take-append-le (b - a) (drop a xs) ys (omega (arith, length-drop a xs))

last_part : (xs ys : List ℕ) → slice_range (xs ++ ys) (length xs) (length xs + length ys) ≡ ys
last_part xs ys = ap (take (length xs + length ys - length xs)) (drop-append_seam xs ys) ∙ take_all (length xs + length ys - length xs) ys (omega arith)

part_of_taken : (m : ℕ) (xs : List ℕ) (a b : ℕ) → a ≤ b → b ≤ m → m ≤ length xs → slice_range (take m xs) a b ≡ slice_range xs a b
part_of_taken m xs a b ordered le within =
    sym (part_of_front (take m xs) (drop m xs) a b ordered (omega (arith, length-take-le m xs within))) ∙ ap (λ l. slice_range l a b) (take-append-drop m xs)

-- ---- ends that ascend

pub ascend_le : (s : ℕ) (es : List ℕ) (last : ℕ) → EndsAscend s es last → s ≤ last
unfolding EndsAscend
ascend_le s [] last c = omega arith
ascend_le s (e ∷ es) last c = let h = ascend_le e es last c.1 in omega (arith, c.0)

pub ascend_more : (s : ℕ) (es : List ℕ) (last new : ℕ) → EndsAscend s es last → last ≤ new → EndsAscend s (es ++ new ∷ []) new
unfolding EndsAscend
ascend_more s [] last new c le = (omega arith, refl)
ascend_more s (e ∷ es) last new c le = (c.0, ascend_more e es last new c.1 le)

before_is : (e : ℕ) (es : List ℕ) (i : ℕ) → get_or (e ∷ es) i 0 ≡ end_before e es i
before_is e es zero = refl
before_is e es (suc i) = refl

pub ascend_at : (s : ℕ) (es : List ℕ) (last i : ℕ) → EndsAscend s es last → i < length es → (end_before s es i ≤ get_or es i 0) × (get_or es i 0 ≤ last)
unfolding EndsAscend
ascend_at s [] last i c lt = absurd (omega arith)
ascend_at s (e ∷ es) last zero c lt = (c.0, ascend_le e es last c.1)
ascend_at s (e ∷ es) last (suc i) c lt =
    let h = ascend_at e es last i c.1 (omega arith) in
    (subst (λ n. n ≤ get_or es i 0) (sym (before_is e es i)) h.0, h.1)

ascend_before : (s : ℕ) (es : List ℕ) (last n : ℕ) → EndsAscend s es last → n ≤ length es → (s ≤ end_before s es n) × (end_before s es n ≤ last)
unfolding EndsAscend
ascend_before s es last zero c le = (omega arith, ascend_le s es last c)
ascend_before s [] last (suc n) c le = absurd (omega arith)
ascend_before s (e ∷ es) last (suc n) c le =
    let h = ascend_before e es last n c.1 (omega arith) in
    let same = before_is e es n in
    (omega (arith, c.0, h.0, same), omega (arith, h.1, same))

pub ascend_cut : (s : ℕ) (es : List ℕ) (last n : ℕ) → EndsAscend s es last → n ≤ length es → EndsAscend s (take n es) (end_before s es n)
unfolding EndsAscend
ascend_cut s es last zero c le = refl
ascend_cut s [] last (suc n) c le = absurd (omega arith)
ascend_cut s (e ∷ es) last (suc n) c le = (c.0, subst (EndsAscend e (take n es)) (sym (before_is e es n)) (ascend_cut e es last n c.1 (omega arith)))

-- ---- the texts

pub length-texts : (bytes : List ℕ) (s : ℕ) (es : List ℕ) → length (texts_from bytes s es) ≡ length es
unfolding texts_from
length-texts bytes s [] = refl
length-texts bytes s (e ∷ es) = ap suc (length-texts bytes e es)

pub text_at : (bytes : List ℕ) (s : ℕ) (es : List ℕ) (i : ℕ) (d : List ℕ) → i < length es → get_or (texts_from bytes s es) i d ≡ slice_range bytes (end_before s es i) (get_or es i 0)
unfolding texts_from
text_at bytes s [] i d lt = absurd (omega arith)
text_at bytes s (e ∷ es) zero d lt = refl
text_at bytes s (e ∷ es) (suc i) d lt = text_at bytes e es i d (omega arith) ∙ ap (λ n. slice_range bytes n (get_or es i 0)) (sym (before_is e es i))

pub texts_more : (bytes t : List ℕ) (s : ℕ) (es : List ℕ) → EndsAscend s es (length bytes) → texts_from (bytes ++ t) s (es ++ (length bytes + length t) ∷ []) ≡ texts_from bytes s es ++ t ∷ []
unfolding texts_from EndsAscend
texts_more bytes t s [] c = ap (λ u. u ∷ []) (ap (λ n. slice_range (bytes ++ t) n (length bytes + length t)) c ∙ last_part bytes t)
texts_more bytes t s (e ∷ es) c =
    λ i. part_of_front bytes t s e c.0 (ascend_le e es (length bytes) c.1) i ∷ texts_more bytes t e es c.1 i

texts_cut_at : (bytes : List ℕ) (s : ℕ) (es : List ℕ) (n m : ℕ) → EndsAscend s es (length bytes) → n ≤ length es → m ≡ end_before s es n → texts_from (take m bytes) s (take n es) ≡ take n (texts_from bytes s es)
unfolding texts_from EndsAscend
texts_cut_at bytes s es zero m c le is = refl
texts_cut_at bytes s [] (suc n) m c le is = absurd (omega arith)
texts_cut_at bytes s (e ∷ es) (suc n) m c le is =
    let h = ascend_before e es (length bytes) n c.1 (omega arith) in
    let at : m ≡ end_before e es n = is ∙ before_is e es n in
    λ i. part_of_taken m bytes s e c.0 (omega (arith, h.0, at)) (omega (arith, h.1, at)) i ∷ texts_cut_at bytes e es n m c.1 (omega arith) at i

pub texts_cut : (bytes : List ℕ) (s : ℕ) (es : List ℕ) (n : ℕ) → EndsAscend s es (length bytes) → n ≤ length es → texts_from (take (end_before s es n) bytes) s (take n es) ≡ take n (texts_from bytes s es)
texts_cut bytes s es n c le = texts_cut_at bytes s es n (end_before s es n) c le refl

pub cut_within : (bytes : List ℕ) (s : ℕ) (es : List ℕ) (n : ℕ) → EndsAscend s es (length bytes) → n ≤ length es → end_before s es n ≤ length bytes
cut_within bytes s es n c le = (ascend_before s es (length bytes) n c le).1
