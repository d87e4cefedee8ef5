-- Offsets of tokens that are passed over, in their order.
use Rattle.std.proofs.Common.{◌≡◌, ℕ, suc, ◌<◌, ◌⊎◌, inl, inr, List, [], ◌∷◌, ◌++◌, refl, sym, ap, subst, arith}
use Rattle.std.specs.Prelude.{All}
use Rattle.std.specs.List.{AllPairs}
use Rattle.std.proofs.lemmas.List.Elements.{All-cons, All-head, All-nil, All-tail}
use Rattle.std.proofs.lemmas.List.Kept.{AllPairs-cons}
use Rattle.row_tokens.specs.Tokens.{Token}

-- the numbers are, in order, offsets of tokens of the first list, before the tokens of the second, with which it ends
abbrev pub Passes : List Token → List ℕ → List Token → Type 0
Passes [] xs us = (xs ≡ []) × (us ≡ [])
Passes (t ∷ ts) xs us = ((xs ≡ []) × (t ∷ ts ≡ us)) ⊎ (Passes ts xs us ⊎ ((ys : List ℕ) × (xs ≡ t.at ∷ ys) × Passes ts ys us))

-- no token
pub stays : (ts : List Token) → Passes ts [] ts
stays [] = (refl, refl)
stays (t ∷ ts) = inl (refl, refl)

-- over a token, and with its offset
pub over : (t : Token) (ts : List Token) → Passes (t ∷ ts) [] ts
over t ts = inr (inl (stays ts))

pub at_it : (t : Token) (ts : List Token) → Passes (t ∷ ts) (t.at ∷ []) ts
at_it t ts = inr (inr ([], refl, stays ts))

-- on and on
pub goes_on : (ts us vs : List Token) (xs ys : List ℕ) → Passes ts xs us → Passes us ys vs → Passes ts (xs ++ ys) vs
goes_on [] us vs xs ys h k = subst (λ l. Passes [] (l ++ ys) vs) (sym h.0) (subst (λ l. Passes l ys vs) h.1 k)
goes_on (t ∷ ts) us vs xs ys (inl h) k = subst (λ l. Passes (t ∷ ts) (l ++ ys) vs) (sym h.0) (subst (λ l. Passes l ys vs) (sym h.1) k)
goes_on (t ∷ ts) us vs xs ys (inr (inl h)) k = inr (inl (goes_on ts us vs xs ys h k))
goes_on (t ∷ ts) us vs xs ys (inr (inr h)) k = inr (inr (h.0 ++ ys, ap (λ l. l ++ ys) h.1, goes_on ts us vs h.0 ys h.2 k))

-- ---- where the tokens ascend

abbrev pub StartsAfter : ℕ → Token → Type 0
StartsAfter n w = n < w.at

abbrev IsAbove : ℕ → ℕ → Type 0
IsAbove m n = m < n

above : (n : ℕ) (ts us : List Token) (xs : List ℕ) → All (StartsAfter n) ts → Passes ts xs us → All (IsAbove n) xs
above n [] us xs after h = subst (All (IsAbove n)) (sym h.0) (All-nil (IsAbove n))
above n (t ∷ ts) us xs after (inl h) = subst (All (IsAbove n)) (sym h.0) (All-nil (IsAbove n))
above n (t ∷ ts) us xs after (inr (inl h)) = above n ts us xs (All-tail (StartsAfter n) t ts after) h
above n (t ∷ ts) us xs after (inr (inr h)) =
    subst (All (IsAbove n)) (sym h.1) (All-cons (IsAbove n) t.at h.0 (All-head (StartsAfter n) t ts after) (above n ts us h.0 (All-tail (StartsAfter n) t ts after) h.2))

-- one token starts before another
abbrev pub IsBefore : Token → Token → Type 0
IsBefore v w = v.at < w.at

no_pairs : AllPairs IsAbove []
no_pairs i j d less within = absurd (omega arith)

later : (t : Token) (ts : List Token) → AllPairs IsBefore (t ∷ ts) → All (StartsAfter t.at) ts
later t ts h k d less = h 0 (suc k) d (omega arith) (omega arith)

others : (t : Token) (ts : List Token) → AllPairs IsBefore (t ∷ ts) → AllPairs IsBefore ts
others t ts h i j d less within = h (suc i) (suc j) d (omega arith) (omega arith)

-- so do the numbers
pub ascend : (ts us : List Token) (xs : List ℕ) → AllPairs IsBefore ts → Passes ts xs us → AllPairs IsAbove xs
ascend [] us xs order h = subst (AllPairs IsAbove) (sym h.0) no_pairs
ascend (t ∷ ts) us xs order (inl h) = subst (AllPairs IsAbove) (sym h.0) no_pairs
ascend (t ∷ ts) us xs order (inr (inl h)) = ascend ts us xs (others t ts order) h
ascend (t ∷ ts) us xs order (inr (inr h)) =
    subst (AllPairs IsAbove) (sym h.1)
    (AllPairs-cons IsAbove t.at h.0 (above t.at ts us h.0 (later t ts order) h.2) (ascend ts us h.0 (others t ts order) h.2))
