-- The tokens that a form derives, and those that are a viable prefix of it.
use Rattle.std.specs.Prelude.{◌≡◌, ℕ, zero, suc, ◌⊎◌, Bool, true, false, List, [], ◌∷◌}
use Rattle.row_grammar.specs.Grammar.{Language, Form, word, nothing, both, either, made, many, nest, inner}

-- from the tokens ts on there is a value, and after it the tokens us
abbrev pub Reading : Type 0 → Type 0 → Type 1
Reading T A = List T → A → List T → Type 0

-- from the tokens ts on there is a viable prefix, and after it the tokens us
abbrev pub Prefixing : Type 0 → Type 1
Prefixing T = List T → List T → Type 0

-- the number of further values that there may be
pub data Room : Type 0 where
  any : Room
  at_most : ℕ → Room

-- the room of a run under the limit n, or of a list without one
abbrev pub room_of : Bool → ℕ → Room
room_of false n = any
room_of true n = at_most n

-- there is room for one more
abbrev pub HasRoom : Room → Type 0
HasRoom any = Unit {0}
HasRoom (at_most zero) = ⊥
HasRoom (at_most (suc n)) = Unit {0}

-- the room after one more
abbrev pub one_less : Room → Room
one_less any = any
one_less (at_most zero) = at_most zero
one_less (at_most (suc n)) = at_most n

-- values one after another
abbrev pub Many : {T A : Type 0} → Reading T A → Room → Reading T (List A)
Many R room ts [] us = ts ≡ us
Many {T} R room ts (x ∷ xs) vs = HasRoom room × ((us : List T) × R ts x us × Many R (one_less room) us xs vs)

-- values one after another, and a viable prefix of the next
abbrev pub ManyPrefix : {T A : Type 0} → Reading T A → Prefixing T → Room → List A → Prefixing T
ManyPrefix R F room [] ts vs = (vs ≡ ts) ⊎ (HasRoom room × F ts vs)
ManyPrefix {T} R F room (x ∷ xs) ts vs = HasRoom room × ((us : List T) × R ts x us × ManyPrefix R F (one_less room) xs us vs)

-- by the leave to open a level, the rules a level deeper, and the limit on runs
module _ (L : Language) (open_ : Bool) (deep : (r : L.Inner) → Reading L.Token (L.Tree r)) (width : ℕ) where
  open L use {Token, kind}

  -- the form derives these tokens with a value, each part after the one before it
  abbrev pub DerivesIn : {A : Type 0} → Form L A → Reading Token A
  DerivesIn (word p) ts t us = (ts ≡ t ∷ us) × (p (kind t) ≡ true)
  DerivesIn (nothing a) ts t us = (ts ≡ us) × (t ≡ a)
  DerivesIn (both g h) ts t vs = (us : List Token) × DerivesIn g ts t.0 us × DerivesIn h us t.1 vs
  DerivesIn (either g h) ts t us = DerivesIn g ts t us ⊎ DerivesIn h ts t us
  DerivesIn (made {A} f g) ts t us = (x : A) × DerivesIn g ts x us × (t ≡ f x)
  DerivesIn (many lim g) ts xs us = Many (DerivesIn g) (room_of lim width) ts xs us
  DerivesIn (nest p g) ts t us = (open_ ≡ true) × ((ms : List Token) × (ts ≡ t.0 ∷ ms) × (p (kind t.0) ≡ true) × DerivesIn g ms t.1 us)
  DerivesIn (inner r) ts t us = deep r ts t us

  module _ (deep_front : L.Inner → Prefixing L.Token) where
    -- none of the form's parts, some or all of them in order, each whole, then a viable prefix of the next
    abbrev pub PrefixIn : {A : Type 0} → Form L A → Prefixing Token
    PrefixIn (word p) ts us = (us ≡ ts) ⊎ ((t : Token) × (ts ≡ t ∷ us) × (p (kind t) ≡ true))
    PrefixIn (nothing a) ts us = us ≡ ts
    PrefixIn (both {A} g h) ts vs = PrefixIn g ts vs ⊎ ((x : A) × (us : List Token) × DerivesIn g ts x us × PrefixIn h us vs)
    PrefixIn (either g h) ts us = PrefixIn g ts us ⊎ PrefixIn h ts us
    PrefixIn (made f g) ts us = PrefixIn g ts us
    PrefixIn (many {A} lim g) ts us = (xs : List A) × ManyPrefix (DerivesIn g) (PrefixIn g) (room_of lim width) xs ts us
    PrefixIn (nest p g) ts us = (us ≡ ts) ⊎ ((open_ ≡ true) × ((x : Token) × (ms : List Token) × (ts ≡ x ∷ ms) × (p (kind x) ≡ true) × PrefixIn g ms us))
    PrefixIn (inner r) ts us = deep_front r ts us
