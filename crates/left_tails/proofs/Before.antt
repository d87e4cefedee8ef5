-- What a comparison of numbers tells, and of costs and then numbers.
use Rattle.std.proofs.Common.{◌≡◌, ◌∙◌, refl, sym, ap, ℕ, ◌<◌, ◌⊎◌, inl, inr, true, false, List, [], ◌∷◌, ◌++◌, length, arith}
use Rattle.std.specs.declared.cmp.Ordering.TheVariants.{Less, Equal, Greater}
use Rattle.std.specs.Ordering.{is_lt, nat_cmp, ordering_then}
use Rattle.std.specs.Cmp.Lexicographic.{slice_cmp}
use Rattle.std.proofs.lemmas.Bool.{cases_order, eq-eqb, le-ltb, lt-ltb, ne_eqb}
use Rattle.left_tails.specs.Plans.{IsNoLater}

pub less_cmp : (x y : ℕ) → x < y → nat_cmp x y ≡ Less
less_cmp x y h = rw (lt-ltb x y h) refl

pub greater_cmp : (x y : ℕ) → x < y → nat_cmp y x ≡ Greater
greater_cmp x y h = rw (le-ltb y x (omega arith), ne_eqb y x (λ k. omega (arith, k))) refl

pub equal_cmp : (x y : ℕ) → x ≡ y → nat_cmp y x ≡ Equal
equal_cmp x y h = rw (le-ltb y x (omega arith), eq-eqb y x (sym h)) refl

-- ---- numbers

pub no_later_itself : (xs : List ℕ) → IsNoLater xs xs
no_later_itself [] = tt
no_later_itself (x ∷ xs) = inr (refl, no_later_itself xs)

pub no_later_through : (xs ys zs : List ℕ) → IsNoLater xs ys → IsNoLater ys zs → IsNoLater xs zs
no_later_through [] ys zs h k = tt
no_later_through (x ∷ xs) [] zs h k = absurd h
no_later_through (x ∷ xs) (y ∷ ys) [] h k = absurd k
no_later_through (x ∷ xs) (y ∷ ys) (z ∷ zs) (inl a) (inl b) = inl (omega arith)
no_later_through (x ∷ xs) (y ∷ ys) (z ∷ zs) (inl a) (inr b) = inl (omega (arith, b.0))
no_later_through (x ∷ xs) (y ∷ ys) (z ∷ zs) (inr a) (inl b) = inl (omega (arith, a.0))
no_later_through (x ∷ xs) (y ∷ ys) (z ∷ zs) (inr a) (inr b) = inr (a.0 ∙ b.0, no_later_through xs ys zs a.1 b.1)

-- the same numbers before both
pub no_later_after : (ns xs ys : List ℕ) → IsNoLater xs ys → IsNoLater (ns ++ xs) (ns ++ ys)
no_later_after [] xs ys h = h
no_later_after (n ∷ ns) xs ys h = inr (refl, no_later_after ns xs ys h)

-- those that come first are no later
less_is : (xs ys : List ℕ) → is_lt (slice_cmp nat_cmp xs ys) ≡ true → IsNoLater xs ys
less_is [] ys h = tt
less_is (x ∷ xs) [] h = absurd (cc)
less_is (x ∷ xs) (y ∷ ys) h = go (less_is xs ys) (cases_order x y)
  where
    go : (is_lt (slice_cmp nat_cmp xs ys) ≡ true → IsNoLater xs ys) → (x ≡ y) ⊎ ((x < y) ⊎ (y < x)) → IsNoLater (x ∷ xs) (y ∷ ys)
    go rest (inl e) = inr (e, rest (sym (ap (λ o. is_lt (ordering_then o (slice_cmp nat_cmp xs ys))) (equal_cmp y x (sym e))) ∙ h))
    go rest (inr (inl a)) = inl a
    go rest (inr (inr b)) = let e : false ≡ true = sym (ap (λ o. is_lt (ordering_then o (slice_cmp nat_cmp xs ys))) (greater_cmp y x b)) ∙ h in absurd (cc)

-- where they do not, the others are
more_is : (xs ys : List ℕ) → is_lt (slice_cmp nat_cmp xs ys) ≡ false → IsNoLater ys xs
more_is xs [] h = tt
more_is [] (y ∷ ys) h = absurd (cc)
more_is (x ∷ xs) (y ∷ ys) h = go (more_is xs ys) (cases_order x y)
  where
    go : (is_lt (slice_cmp nat_cmp xs ys) ≡ false → IsNoLater ys xs) → (x ≡ y) ⊎ ((x < y) ⊎ (y < x)) → IsNoLater (y ∷ ys) (x ∷ xs)
    go rest (inl e) = inr (sym e, rest (sym (ap (λ o. is_lt (ordering_then o (slice_cmp nat_cmp xs ys))) (equal_cmp y x (sym e))) ∙ h))
    go rest (inr (inl a)) = let e : true ≡ false = sym (ap (λ o. is_lt (ordering_then o (slice_cmp nat_cmp xs ys))) (less_cmp x y a)) ∙ h in absurd (cc)
    go rest (inr (inr b)) = inl b

-- the same before the same, and as many before others
pub no_later_before : (xs ys zs : List ℕ) → length xs ≡ length ys → IsNoLater xs ys → IsNoLater (xs ++ zs) (ys ++ zs)
no_later_before [] [] zs many h = no_later_itself zs
no_later_before [] (y ∷ ys) zs many h = absurd (omega arith)
no_later_before (x ∷ xs) [] zs many h = absurd h
no_later_before (x ∷ xs) (y ∷ ys) zs many (inl a) = inl a
no_later_before (x ∷ xs) (y ∷ ys) zs many (inr a) = inr (a.0, no_later_before xs ys zs (omega arith) a.1)

-- as many numbers under the same ones, whichever these are
pub no_later_under : (xs ys zs ws : List ℕ) → length xs ≡ length ys → IsNoLater (xs ++ zs) (ys ++ zs) → IsNoLater (xs ++ ws) (ys ++ ws)
no_later_under [] [] zs ws many h = no_later_itself ws
no_later_under [] (y ∷ ys) zs ws many h = absurd (omega arith)
no_later_under (x ∷ xs) [] zs ws many h = absurd (omega arith)
no_later_under (x ∷ xs) (y ∷ ys) zs ws many (inl a) = inl a
no_later_under (x ∷ xs) (y ∷ ys) zs ws many (inr a) = inr (a.0, no_later_under xs ys zs ws (omega arith) a.1)

-- ---- costs, and then numbers

-- it costs less, or as much and the numbers are no later
abbrev pub IsNoMore : (cost : ℕ) → List ℕ → (other : ℕ) → List ℕ → Type 0
IsNoMore c xs d ys = (c < d) ⊎ ((c ≡ d) × IsNoLater xs ys)

pub no_more_itself : (c : ℕ) (xs : List ℕ) → IsNoMore c xs c xs
no_more_itself c xs = inr (refl, no_later_itself xs)

pub no_more_through : (c d e : ℕ) (xs ys zs : List ℕ) → IsNoMore c xs d ys → IsNoMore d ys e zs → IsNoMore c xs e zs
no_more_through c d e xs ys zs (inl a) (inl b) = inl (omega arith)
no_more_through c d e xs ys zs (inl a) (inr b) = inl (omega (arith, b.0))
no_more_through c d e xs ys zs (inr a) (inl b) = inl (omega (arith, a.0))
no_more_through c d e xs ys zs (inr a) (inr b) = inr (a.0 ∙ b.0, no_later_through xs ys zs a.1 b.1)

module _ (c d : ℕ) (xs ys : List ℕ) where
  pub first_is : is_lt (ordering_then (nat_cmp c d) (slice_cmp nat_cmp xs ys)) ≡ true → IsNoMore c xs d ys
  first_is h = go (cases_order c d)
    where
      go : (c ≡ d) ⊎ ((c < d) ⊎ (d < c)) → IsNoMore c xs d ys
      go (inl e) = inr (e, less_is xs ys (sym (ap (λ o. is_lt (ordering_then o (slice_cmp nat_cmp xs ys))) (equal_cmp d c (sym e))) ∙ h))
      go (inr (inl a)) = inl a
      go (inr (inr b)) = let e : false ≡ true = sym (ap (λ o. is_lt (ordering_then o (slice_cmp nat_cmp xs ys))) (greater_cmp d c b)) ∙ h in absurd (cc)

  pub other_is : is_lt (ordering_then (nat_cmp c d) (slice_cmp nat_cmp xs ys)) ≡ false → IsNoMore d ys c xs
  other_is h = go (cases_order c d)
    where
      go : (c ≡ d) ⊎ ((c < d) ⊎ (d < c)) → IsNoMore d ys c xs
      go (inl e) = inr (sym e, more_is xs ys (sym (ap (λ o. is_lt (ordering_then o (slice_cmp nat_cmp xs ys))) (equal_cmp d c (sym e))) ∙ h))
      go (inr (inl a)) = let e : true ≡ false = sym (ap (λ o. is_lt (ordering_then o (slice_cmp nat_cmp xs ys))) (less_cmp c d a)) ∙ h in absurd (cc)
      go (inr (inr b)) = inl b
