-- Facts of every form: the kinds that start it, and that its values are viable prefixes.
use Rattle.std.proofs.Common.{◌≡◌, ℕ, zero, suc, ◌<◌, ◌⊎◌, inl, inr, Bool, true, false, ◌&&◌, ◌||◌, List, [], ◌∷◌, length, refl, sym, ap, ◌∙◌, subst, arith}
use Rattle.memory.proofs.Cases.{or_second}
use Rattle.row_grammar.specs.Grammar.{Language, Form, word, nothing, both, either, made, many, nest, inner}
use Rattle.row_grammar.specs.Meaning.{Reading, Prefixing, Room, any, at_most, room_of, one_less, Many, ManyPrefix, DerivesIn, PrefixIn}
use Rattle.row_grammar.specs.Decoder.{head_in, nullable, first}

-- ---- tests

pub or_left : (a b : Bool) → a ≡ true → (a || b) ≡ true
or_left true b e = refl
or_left false b e = cc

pub and_both : (a b : Bool) → a ≡ true → b ≡ true → (a && b) ≡ true
and_both true b p q = q
and_both false b p q = cc

pub and_left : (a b : Bool) → (a && b) ≡ true → a ≡ true
and_left true b e = refl
and_left false b e = e

pub and_right : (a b : Bool) → (a && b) ≡ true → b ≡ true
and_right true b e = e
and_right false b e = cc

-- room for one more
abbrev pub more_room : Room → Room
more_room any = any
more_room (at_most n) = at_most (suc n)

module _ (L : Language) where
  open L use {Kind, Token, kind}

  -- ---- tests of a token

  pub head_or_left : (p q : Kind → Bool) (ts : List Token) → head_in kind p ts ≡ true → head_in kind (λ k. p k || q k) ts ≡ true
  head_or_left p q [] e = e
  head_or_left p q (t ∷ ts) e = or_left _ _ e

  pub head_or_right : (p q : Kind → Bool) (ts : List Token) → head_in kind q ts ≡ true → head_in kind (λ k. p k || q k) ts ≡ true
  head_or_right p q [] e = e
  head_or_right p q (t ∷ ts) e = or_second _ _ e

  pub head_and : (b : Bool) (q : Kind → Bool) (ts : List Token) → b ≡ true → head_in kind q ts ≡ true → head_in kind (λ k. b && q k) ts ≡ true
  head_and b q [] e h = h
  head_and b q (t ∷ ts) e h = and_both _ _ e h

  -- ---- facts

  pub record Facts {A : Type 0} (S : Reading Token A) (F : Prefixing Token) (f : Kind → Bool) (null : Bool) (S⁺ : Reading Token A) : Type 0 where
    pub none : (ts : List Token) → F ts ts
    pub whole : (ts : List Token) (t : A) (us : List Token) → S ts t us → F ts us
    pub starts : (ts : List Token) (t : A) (us : List Token) → S ts t us → ((head_in kind f ts ≡ true) × (length us < length ts)) ⊎ ((null ≡ true) × (us ≡ ts))
    pub begins : (ts us : List Token) → F ts us → (us ≡ ts) ⊎ (head_in kind f ts ≡ true)
    pub more : (ts : List Token) (t : A) (us : List Token) → S ts t us → S⁺ ts t us

  -- a fact about the starts that goes along an equation
  abbrev Starts : (Kind → Bool) → Bool → List Token → List Token → Type 0
  Starts f null ts us = ((head_in kind f ts ≡ true) × (length us < length ts)) ⊎ ((null ≡ true) × (us ≡ ts))

  both_starts : (f g : Kind → Bool) (m n : Bool) (ts us vs : List Token) → Starts f m ts us → Starts g n us vs → Starts (λ k. (m && g k) || f k) (m && n) ts vs
  both_starts f g m n ts us vs (inl a) (inl b) = inl (head_or_right (λ k. m && g k) f ts a.0, omega arith)
  both_starts f g m n ts us vs (inl a) (inr b) = inl (head_or_right (λ k. m && g k) f ts a.0, omega (arith, ap length b.1))
  both_starts f g m n ts us vs (inr a) (inl b) =
      inl (head_or_left (λ k. m && g k) f ts (head_and m g ts a.0 (subst (λ l. head_in kind g l ≡ true) a.1 b.0)), omega (arith, ap length a.1))
  both_starts f g m n ts us vs (inr a) (inr b) = inr (and_both m n a.0 b.0, b.1 ∙ a.1)

  either_starts_left : (f g : Kind → Bool) (m n : Bool) (ts us : List Token) → Starts f m ts us → Starts (λ k. f k || g k) (m || n) ts us
  either_starts_left f g m n ts us (inl a) = inl (head_or_left f g ts a.0, a.1)
  either_starts_left f g m n ts us (inr a) = inr (or_left m n a.0, a.1)

  either_starts_right : (f g : Kind → Bool) (m n : Bool) (ts us : List Token) → Starts g n ts us → Starts (λ k. f k || g k) (m || n) ts us
  either_starts_right f g m n ts us (inl a) = inl (head_or_right f g ts a.0, a.1)
  either_starts_right f g m n ts us (inr a) = inr (or_second m n a.0, a.1)

  -- the start of a value followed by a viable prefix of the next
  both_begins : (f g : Kind → Bool) (m : Bool) (ts us vs : List Token) → Starts f m ts us → (vs ≡ us) ⊎ (head_in kind g us ≡ true) → (vs ≡ ts) ⊎ (head_in kind (λ k. (m && g k) || f k) ts ≡ true)
  both_begins f g m ts us vs (inl a) b = inr (head_or_right (λ k. m && g k) f ts a.0)
  both_begins f g m ts us vs (inr a) (inl b) = inl (b ∙ a.1)
  both_begins f g m ts us vs (inr a) (inr b) = inr (head_or_left (λ k. m && g k) f ts (head_and m g ts a.0 (subst (λ l. head_in kind g l ≡ true) a.1 b)))

  begins_left : (f g : Kind → Bool) (ts us : List Token) → (us ≡ ts) ⊎ (head_in kind f ts ≡ true) → (us ≡ ts) ⊎ (head_in kind (λ k. f k || g k) ts ≡ true)
  begins_left f g ts us (inl e) = inl e
  begins_left f g ts us (inr h) = inr (head_or_left f g ts h)

  begins_right : (f g : Kind → Bool) (ts us : List Token) → (us ≡ ts) ⊎ (head_in kind g ts ≡ true) → (us ≡ ts) ⊎ (head_in kind (λ k. f k || g k) ts ≡ true)
  begins_right f g ts us (inl e) = inl e
  begins_right f g ts us (inr h) = inr (head_or_right f g ts h)

  -- ---- repetitions

  module _ {A : Type 0} (S : Reading Token A) (F : Prefixing Token) (f : Kind → Bool) (null : Bool) (S⁺ : Reading Token A) (facts : Facts S F f null S⁺) where
    pub many_whole : (room : Room) (ts : List Token) (xs : List A) (us : List Token) → Many S room ts xs us → ManyPrefix S F room xs ts us
    many_whole room ts [] us e = inl (sym e)
    many_whole room ts (x ∷ xs) us h = (h.0, (h.1.0, h.1.1, many_whole (one_less room) h.1.0 xs us h.1.2))

    pub many_starts : (room : Room) (ts : List Token) (xs : List A) (us : List Token) → Many S room ts xs us → Starts f true ts us
    many_starts room ts [] us e = inr (refl, sym e)
    many_starts room ts (x ∷ xs) us h = then_many (facts.starts ts x h.1.0 h.1.1) (many_starts (one_less room) h.1.0 xs us h.1.2)
      where
        then_many : {ts ms vs : List Token} → Starts f null ts ms → Starts f true ms vs → Starts f true ts vs
        then_many (inl a) (inl b) = inl (a.0, omega arith)
        then_many (inl a) (inr b) = inl (a.0, omega (arith, ap length b.1))
        then_many (inr a) (inl b) = inl (subst (λ l. head_in kind f l ≡ true) a.1 b.0, omega (arith, ap length a.1))
        then_many (inr a) (inr b) = inr (refl, b.1 ∙ a.1)

    pub many_begins : (room : Room) (xs : List A) (ts us : List Token) → ManyPrefix S F room xs ts us → (us ≡ ts) ⊎ (head_in kind f ts ≡ true)
    many_begins room [] ts us (inl e) = inl e
    many_begins room [] ts us (inr h) = facts.begins ts us h.1
    many_begins room (x ∷ xs) ts us h = then_front (facts.starts ts x h.1.0 h.1.1) (many_begins (one_less room) xs h.1.0 us h.1.2)
      where
        then_front : {ts ms vs : List Token} → Starts f null ts ms → (vs ≡ ms) ⊎ (head_in kind f ms ≡ true) → (vs ≡ ts) ⊎ (head_in kind f ts ≡ true)
        then_front (inl a) b = inr a.0
        then_front (inr a) (inl b) = inl (b ∙ a.1)
        then_front (inr a) (inr b) = inr (subst (λ l. head_in kind f l ≡ true) a.1 b)

    pub many_more : (room : Room) (ts : List Token) (xs : List A) (us : List Token) → Many S room ts xs us → Many S⁺ (more_room room) ts xs us
    many_more any ts [] us e = e
    many_more any ts (x ∷ xs) us h = (tt, (h.1.0, facts.more ts x h.1.0 h.1.1, many_more any h.1.0 xs us h.1.2))
    many_more (at_most zero) ts [] us e = e
    many_more (at_most zero) ts (x ∷ xs) us h = absurd h.0
    many_more (at_most (suc n)) ts [] us e = e
    many_more (at_most (suc n)) ts (x ∷ xs) us h = (tt, (h.1.0, facts.more ts x h.1.0 h.1.1, many_more (at_most n) h.1.0 xs us h.1.2))

  -- ---- every form

  module _ (inner_first : L.Inner → Kind → Bool) (open_ : Bool) (deep : (r : L.Inner) → Reading Token (L.Tree r)) (width : ℕ) (deep_front : L.Inner → Prefixing Token)
      (open⁺ : Bool) (deep⁺ : (r : L.Inner) → Reading Token (L.Tree r)) (opens : open_ ≡ true → open⁺ ≡ true)
      (deep_facts : (r : L.Inner) → Facts (deep r) (deep_front r) (inner_first r) false (deep⁺ r)) where
    abbrev Fine : {A : Type 0} → Form L A → Type 0
    Fine f = Facts (DerivesIn L open_ deep width f) (PrefixIn L open_ deep width deep_front f) (first L inner_first f) (nullable f) (DerivesIn L open⁺ deep⁺ (suc width) f)

    room_more : {A : Type 0} (lim : Bool) (R : Reading Token A) (ts : List Token) (xs : List A) (us : List Token) → Many R (more_room (room_of lim width)) ts xs us → Many R (room_of lim (suc width)) ts xs us
    room_more true R ts xs us h = h
    room_more false R ts xs us h = h

    pub facts_of : {A : Type 0} (f : Form L A) → Fine f
    facts_of (word p) = record {
      none = λ ts. inl refl;
      whole = λ ts t us h. inr (t, h.0, h.1);
      starts = λ ts t us h. inl (subst (λ l. head_in kind p l ≡ true) (sym h.0) h.1, omega (arith, ap length h.0));
      begins = λ ts us. elim [ inl e ↦ inl e | inr h ↦ inr (subst (λ l. head_in kind p l ≡ true) (sym h.1) h.2) ];
      more = λ ts t us h. h;
    }
    facts_of (nothing a) = record {
      none = λ ts. refl;
      whole = λ ts t us h. sym h.0;
      starts = λ ts t us h. inr (refl, sym h.0);
      begins = λ ts us h. inl h;
      more = λ ts t us h. h;
    }
    facts_of (both g h) =
        let a = facts_of g in
        let b = facts_of h in
        record {
          none = λ ts. inl (a.none ts);
          whole = λ ts t us s. inr (t.0, s.0, s.1, b.whole s.0 t.1 us s.2);
          starts = λ ts t us s. both_starts (first L inner_first g) (first L inner_first h) _ _ ts s.0 us (a.starts ts t.0 s.0 s.1) (b.starts s.0 t.1 us s.2);
          begins = λ ts us. elim [
            | inl s ↦ begins_right (λ k. nullable g && first L inner_first h k) (first L inner_first g) ts us (a.begins ts us s)
            | inr s ↦ both_begins (first L inner_first g) (first L inner_first h) _ ts s.1 us (a.starts ts s.0 s.1 s.2) (b.begins s.1 us s.3)
          ];
          more = λ ts t us s. (s.0, a.more ts t.0 s.0 s.1, b.more s.0 t.1 us s.2);
        }
    facts_of (either g h) =
        let a = facts_of g in
        let b = facts_of h in
        record {
          none = λ ts. inl (a.none ts);
          whole = λ ts t us. elim [ inl s ↦ inl (a.whole ts t us s) | inr s ↦ inr (b.whole ts t us s) ];
          starts = λ ts t us. elim [
            | inl s ↦ either_starts_left (first L inner_first g) (first L inner_first h) _ _ ts us (a.starts ts t us s)
            | inr s ↦ either_starts_right (first L inner_first g) (first L inner_first h) _ _ ts us (b.starts ts t us s)
          ];
          begins = λ ts us. elim [
            | inl s ↦ begins_left (first L inner_first g) (first L inner_first h) ts us (a.begins ts us s)
            | inr s ↦ begins_right (first L inner_first g) (first L inner_first h) ts us (b.begins ts us s)
          ];
          more = λ ts t us. elim [ inl s ↦ inl (a.more ts t us s) | inr s ↦ inr (b.more ts t us s) ];
        }
    facts_of (made f g) =
        let a = facts_of g in
        record {
          none = a.none;
          whole = λ ts t us s. a.whole ts s.0 us s.1;
          starts = λ ts t us s. a.starts ts s.0 us s.1;
          begins = a.begins;
          more = λ ts t us s. (s.0, a.more ts s.0 us s.1, s.2);
        }
    facts_of (many lim g) =
        let a = facts_of g in
        record {
          none = λ ts. ([], inl refl);
          whole = λ ts xs us s. (xs, many_whole _ _ _ _ _ a (room_of lim width) ts xs us s);
          starts = λ ts xs us s. many_starts _ _ _ _ _ a (room_of lim width) ts xs us s;
          begins = λ ts us s. many_begins _ _ _ _ _ a (room_of lim width) s.0 ts us s.1;
          more = λ ts xs us s. room_more lim _ ts xs us (many_more _ _ _ _ _ a (room_of lim width) ts xs us s);
        }
    facts_of (nest p g) =
        let a = facts_of g in
        record {
          none = λ ts. inl refl;
          whole = λ ts t us s. inr (s.0, (t.0, s.1.0, s.1.1, s.1.2, a.whole s.1.0 t.1 us s.1.3));
          starts = λ ts t us s. inl (subst (λ l. head_in kind p l ≡ true) (sym s.1.1) s.1.2, shorter ts t.0 s.1.0 us (first L inner_first g) (nullable g) s.1.1 (a.starts s.1.0 t.1 us s.1.3));
          begins = λ ts us. elim [ inl e ↦ inl e | inr s ↦ inr (subst (λ l. head_in kind p l ≡ true) (sym s.1.2) s.1.3) ];
          more = λ ts t us s. (opens s.0, (s.1.0, s.1.1, s.1.2, a.more s.1.0 t.1 us s.1.3));
        }
      where
        shorter : (ts : List Token) (x : Token) (ms us : List Token) (f : Kind → Bool) (n : Bool) → ts ≡ x ∷ ms → Starts f n ms us → length us < length ts
        shorter ts x ms us f n e (inl b) = omega (arith, ap length e)
        shorter ts x ms us f n e (inr b) = omega (arith, ap length e, ap length b.1)
    facts_of (inner r) = deep_facts r
