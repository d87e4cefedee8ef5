-- The offsets of the tokens of a text.
use Rattle.std.proofs.Common.{◌≡◌, ℕ, zero, suc, ◌+◌, ◌-◌, ◌≤◌, ◌==◌, List, [], ◌∷◌, length, take, drop, refl, sym, ap, ◌∙◌, arith}
use Rattle.std.specs.Prelude.{All}
use Rattle.std.specs.List.{AllPairs}
use Rattle.std.proofs.lemmas.Bool.{cond_both, eqb-false}
use Rattle.std.proofs.lemmas.List.{drop-drop, length-take, take_min}
use Rattle.std.proofs.lemmas.List.Elements.{All-nil, All-cons}
use Rattle.row_tokens.specs.declared.lexeme.Lexeme.{Lexeme}
use Rattle.row_tokens.specs.Tokens.{Token, is_space, lexeme, word_at, words_from}
use Rattle.row_tokens.specs.Slices.{StandsIn, EndsBefore, AreSlices, AreInOrder}

pub pairs_nil : {X : Type 0} (R : X → X → Type 0) → AllPairs R []
pairs_nil R i j d lt within = absurd (omega arith)

pub pairs_cons : {X : Type 0} (R : X → X → Type 0) (x : X) (xs : List X) → All (R x) xs → AllPairs R xs → AllPairs R (x ∷ xs)
pairs_cons R x xs first rest zero zero d lt within = absurd (omega arith)
pairs_cons R x xs first rest zero (suc j) d lt within = first j d (omega arith)
pairs_cons R x xs first rest (suc i) zero d lt within = absurd (omega arith)
pairs_cons R x xs first rest (suc i) (suc j) d lt within = rest i j d (omega arith) (omega arith)

-- one byte on
pub next_byte : (at b : ℕ) (bs text : List ℕ) → drop at text ≡ b ∷ bs → drop (at + 1) text ≡ bs
next_byte at b bs text e = sym (drop-drop 1 at text) ∙ ap (drop 1) e

word_stands : (at : ℕ) (l : Lexeme) (bs text : List ℕ) → drop at text ≡ bs → StandsIn text (word_at at l bs)
word_stands at l bs text e =
    ap (λ ds. take (length (take l.size bs)) ds) e ∙ ap (λ n. take n bs) (length-take l.size bs) ∙ take_min l.size bs

slices_from : (skip at : ℕ) (bs text : List ℕ) → drop at text ≡ bs → All (StandsIn text) (words_from skip at bs)
unfolding words_from
slices_from skip at [] text e = All-nil (StandsIn text)
slices_from (suc n) at (b ∷ bs) text e = slices_from n (at + 1) bs text (next_byte at b bs text e)
slices_from zero at (b ∷ bs) text e =
    cond_both (is_space b) _ _ (All (StandsIn text))
    (λ _. slices_from zero (at + 1) bs text (next_byte at b bs text e))
    (λ _. All-cons (StandsIn text) _ _ (word_stands at (lexeme (b ∷ bs)) (b ∷ bs) text e)
    (cond_both ((lexeme (b ∷ bs)).size == 0) _ _ (All (StandsIn text)) (λ _. All-nil (StandsIn text))
    (λ _. slices_from ((lexeme (b ∷ bs)).size - 1) (at + 1) bs text (next_byte at b bs text e))))

pub are_slices : AreSlices
are_slices text = slices_from 0 0 text text refl

-- words start after the bytes that are passed over
start_from : (low skip at : ℕ) (bs : List ℕ) → low ≤ at + skip → All (λ (w : Token). low ≤ w.at) (words_from skip at bs)
unfolding words_from
start_from low skip at [] h = All-nil (λ (w : Token). low ≤ w.at)
start_from low (suc n) at (b ∷ bs) h = start_from low n (at + 1) bs (omega arith)
start_from low zero at (b ∷ bs) h =
    let Begins : Token → Type 0 = λ w. low ≤ w.at in
    cond_both (is_space b) _ _ (All Begins) (λ _. start_from low zero (at + 1) bs (omega arith))
    (λ _. All-cons Begins _ _ (omega arith)
    (cond_both ((lexeme (b ∷ bs)).size == 0) _ _ (All Begins) (λ _. All-nil Begins)
    (λ _. start_from low ((lexeme (b ∷ bs)).size - 1) (at + 1) bs (omega arith))))

order_from : (skip at : ℕ) (bs : List ℕ) → AllPairs EndsBefore (words_from skip at bs)
unfolding words_from
order_from skip at [] = pairs_nil EndsBefore
order_from (suc n) at (b ∷ bs) = order_from n (at + 1) bs
order_from zero at (b ∷ bs) =
    let l = lexeme (b ∷ bs) in
    let w = word_at at l (b ∷ bs) in
    let rest = words_from (l.size - 1) (at + 1) bs in
    cond_both (is_space b) _ _ (AllPairs EndsBefore) (λ _. order_from zero (at + 1) bs)
    (λ _. cond_both (l.size == 0) [] rest (λ ws. AllPairs EndsBefore (w ∷ ws)) (λ _. pairs_cons EndsBefore w [] (All-nil (EndsBefore w)) (pairs_nil EndsBefore))
    (λ e.
    let some = eqb-false l.size 0 e in
    let starts = start_from (at + l.size) (l.size - 1) (at + 1) bs (omega arith) in
    let longest = length-take l.size (b ∷ bs) in
    pairs_cons EndsBefore w rest (λ k d lt. (omega (arith, starts k d lt), omega (arith, starts k d lt, longest))) (order_from (l.size - 1) (at + 1) bs)))

pub are_in_order : AreInOrder
are_in_order text = order_from 0 0 text
