-- The conditions under which one token decides, as a test that computes.
use Rattle.std.proofs.Common.{◌≡◌, ℕ, ◌⊎◌, inl, inr, Bool, true, false, not, ◌&&◌, ◌||◌, List, [], ◌∷◌, refl}
use Rattle.row_grammar.specs.Grammar.{Language, Form, word, nothing, both, either, made, many, nest, inner, Grammar}
use Rattle.row_grammar.specs.Meaning.{Reading, Prefixing, PrefixIn}
use Rattle.row_grammar.specs.Decoder.{head_in, nullable, first}
use Rattle.row_grammar.proofs.Facts.{and_left, and_right}
use Rattle.row_grammar.proofs.Meets.{Apart}

-- ---- a test at each kind

abbrev pub all_of : {K : Type 0} → (K → Bool) → List K → Bool
all_of p [] = true
all_of p (x ∷ xs) = p x && all_of p xs

abbrev pub any_of : {K : Type 0} → (K → Bool) → List K → Bool
any_of p [] = false
any_of p (x ∷ xs) = p x || any_of p xs

-- A test that holds at each of a list holds at every kind that the list has, where a test of equality finds it there.
pub all_at : {K : Type 0} (same : K → K → Bool) → ((a b : K) → same a b ≡ true → a ≡ b) → (p : K → Bool) (xs : List K) → all_of p xs ≡ true → (k : K) → any_of (same k) xs ≡ true → p k ≡ true
all_at same is p [] e k h = cc
all_at {K} same is p (x ∷ xs) e k h = go (same k x) refl h (λ l. all_at same is p xs (and_right (p x) _ e) k l)
  where
    go : (b : Bool) → same k x ≡ b → (b || any_of (same k) xs) ≡ true → (any_of (same k) xs ≡ true → p k ≡ true) → p k ≡ true
    go true s h rest = let q : k ≡ x = is k x s in rw q (and_left _ _ e)
    go false s h rest = rest h

module _ {K : Type 0} (kinds : List K) where
  -- no kind passes both tests
  abbrev pub apart : (K → Bool) → (K → Bool) → Bool
  apart p q = all_of (λ k. not (p k && q k)) kinds

  abbrev pub within : (K → Bool) → (K → Bool) → Bool
  within p q = all_of (λ k. not (p k) || q k) kinds

-- A test that holds at each of the kinds holds at every kind.
abbrev pub HasEvery : {K : Type 0} → List K → Type 0
HasEvery {K} kinds = (p : K → Bool) → all_of p kinds ≡ true → (k : K) → p k ≡ true

module _ (L : Language) (kinds : List L.Kind) (every : HasEvery kinds) where
  open L use {Kind, Token, kind}

  pub Apart-apart : (p q : Kind → Bool) → apart kinds p q ≡ true → Apart L p q
  Apart-apart p q e k a b = go (p k) (q k) (every (λ k. not (p k && q k)) e k) a b
    where
      go : (x y : Bool) → not (x && y) ≡ true → x ≡ true → y ≡ true → ⊥
      go true true e a b = cc
      go true false e a b = cc
      go false y e a b = cc

  pub within_at : (p q : Kind → Bool) → within kinds p q ≡ true → (k : Kind) → p k ≡ true → q k ≡ true
  within_at p q e k a = go (p k) (q k) (every (λ k. not (p k) || q k) e k) a
    where
      go : (x y : Bool) → (not x || y) ≡ true → x ≡ true → y ≡ true
      go true y e a = e
      go false y e a = cc

  pub head_within : (p q : Kind → Bool) → within kinds p q ≡ true → (ts : List Token) → head_in kind p ts ≡ true → head_in kind q ts ≡ true
  head_within p q e [] h = h
  head_within p q e (t ∷ ts) h = within_at p q e (kind t) h

-- ---- a form

module _ (L : Language) (inner_first inner_ext : L.Inner → L.Kind → Bool) where
  open L use {Kind, Token, kind}

  -- the kinds that extend a value of the form
  abbrev pub ext : {A : Type 0} → Form L A → Kind → Bool
  ext (word p) k = false
  ext (nothing a) k = false
  ext (both g h) k = ext h k || (nullable h && ext g k)
  ext (either g h) k = (ext g k || ext h k) || (nullable h && first L inner_first g k)
  ext (made f g) k = ext g k
  ext (many lim g) k = first L inner_first g k || ext g k
  ext (nest p g) k = ext g k
  ext (inner r) k = inner_ext r k

  -- its first token is a viable prefix by itself, however deep it is
  abbrev pub leads : {A : Type 0} → Form L A → Bool
  leads (word p) = true
  leads (nothing a) = false
  leads (both g h) = leads g && not (nullable g)
  leads (either g h) = leads g && leads h
  leads (made f g) = leads g
  leads (many lim g) = false
  leads (nest p g) = false
  leads (inner r) = false

  -- one token decides; an inner rule is inside a level alone
  abbrev pub good : List Kind → {A : Type 0} → Bool → Form L A → Bool
  good kinds o (word p) = true
  good kinds o (nothing a) = true
  good kinds o (both g h) = good kinds o g && (good kinds o h && apart kinds (ext g) (first L inner_first h))
  good kinds o (either g h) = good kinds o g && (good kinds o h && (not (nullable g) && apart kinds (first L inner_first g) (first L inner_first h)))
  good kinds o (made f g) = good kinds o g
  good kinds o (many lim g) = good kinds o g && (not (nullable g) && (apart kinds (ext g) (first L inner_first g) && (not lim || leads g)))
  good kinds o (nest p g) = good kinds true g
  good kinds o (inner r) = o

  module _ (open_ : Bool) (deep : (r : L.Inner) → Reading L.Token (L.Tree r)) (width : ℕ) (deep_front : L.Inner → Prefixing L.Token) where
    abbrev Begun : {A : Type 0} → Form L A → Token → List Token → Type 0
    Begun f y ms = PrefixIn L open_ deep width deep_front f (y ∷ ms) ms

    pub leads_front : {A : Type 0} (f : Form L A) → leads f ≡ true → (y : Token) (ms : List Token) → first L inner_first f (kind y) ≡ true → PrefixIn L open_ deep width deep_front f (y ∷ ms) ms
    leads_front (word p) l y ms h = inr (y, refl, h)
    leads_front (nothing a) l y ms h = cc
    leads_front (both g h) l y ms e = inl (leads_front g (and_left _ _ l) y ms (go (first L inner_first g (kind y)) (nullable g) (first L inner_first h (kind y)) (and_right _ _ l) e))
      where
        go : (a n b : Bool) → not n ≡ true → ((n && b) || a) ≡ true → a ≡ true
        go a true b p q = cc
        go a false b p q = q
    leads_front (either g h) l y ms e = go (first L inner_first g (kind y)) refl e (leads_front g (and_left _ _ l) y ms) (leads_front h (and_right _ _ l) y ms)
      where
        go : (a : Bool) → first L inner_first g (kind y) ≡ a → (a || first L inner_first h (kind y)) ≡ true
            → (first L inner_first g (kind y) ≡ true → Begun g y ms) → (first L inner_first h (kind y) ≡ true → Begun h y ms)
            → Begun g y ms ⊎ Begun h y ms
        go true p q left right = inl (left p)
        go false p q left right = inr (right q)
    leads_front (made f g) l y ms e = leads_front g l y ms e
    leads_front (many lim g) l y ms e = cc
    leads_front (nest p g) l y ms e = cc
    leads_front (inner r) l y ms e = cc

-- ---- a grammar

-- One token decides in every rule that is a level deeper.
pub record IsDecided {L : Language} (G : Grammar L) (kinds : List L.Kind) (inner_ext : L.Inner → L.Kind → Bool) : Type 0 where
  pub every : HasEvery kinds
  -- the kinds that a rule starts with are among those that the grammar names
  pub first_fits : (r : L.Inner) → within kinds (first L G.inner_first (G.rule r)) (G.inner_first r) ≡ true
  pub never_null : (r : L.Inner) → nullable (G.rule r) ≡ false
  -- the kinds that extend a rule's value are among those of inner_ext
  pub ext_fits : (r : L.Inner) → within kinds (ext L G.inner_first inner_ext (G.rule r)) (inner_ext r) ≡ true
  pub rules_good : (r : L.Inner) → good L G.inner_first inner_ext kinds false (G.rule r) ≡ true
