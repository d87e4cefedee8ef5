-- Every form of a grammar that one token decides is read as the grammar derives it.
use Rattle.std.proofs.Common.{◌≡◌, ℕ, zero, suc, ◌≤◌, inl, inr, Bool, true, false, not, ◌||◌, List, length, Ok, Err, refl, sym, ap, ◌∙◌, subst, arith}
use Rattle.std.specs.Prelude.{if◌then◌else◌}
use Rattle.row_grammar.specs.Grammar.{Language, Form, word, nothing, both, either, made, many, nest, inner, Grammar}
use Rattle.row_grammar.specs.Meaning.{Reading, Prefixing, any, at_most, room_of, Many, ManyPrefix}
use Rattle.row_grammar.specs.Decoder.{Outcome, nullable, first, many_at}
use Rattle.row_grammar.specs.declared.error.ReadError.TheVariants.{Syntax, Limit}
use Rattle.row_grammar.specs.Limits.{can_open, Deep, DeepPrefix, Derives, ViablePrefix, deep_at, reads}
use Rattle.row_grammar.proofs.Facts.{Facts, facts_of, more_room, and_left, and_right}
use Rattle.row_grammar.proofs.Meets.{Meets, Apart, word_meets, nothing_meets, both_meets, either_meets, made_meets, nest_meets, Loop, LoopPrefix, loop_ext, loop_meets}
use Rattle.row_grammar.proofs.Check.{within, head_within, Apart-apart, ext, leads, good, leads_front, HasEvery, IsDecided}

-- the length of a run, and the depth of a rule
abbrev pub Bounds : Type 0
Bounds = ℕ × ℕ

abbrev pub up : Bounds → Bounds
up i = (suc i.0, suc i.1)

facts_within : {L : Language} {A : Type 0} {S : Reading L.Token A} {F : Prefixing L.Token} {f g : L.Kind → Bool} {m n : Bool} {S⁺ : Reading L.Token A} (kinds : List L.Kind) → HasEvery kinds
    → within kinds f g ≡ true → m ≡ n → Facts L S F f m S⁺ → Facts L S F g n S⁺
facts_within {L} {f} {g} kinds every w e a = record {
  none = a.none;
  whole = a.whole;
  starts = λ ts t us h. elim (a.starts ts t us h) [ inl s ↦ inl (head_within L kinds every f g w ts s.0, s.1) | inr s ↦ inr (sym e ∙ s.0, s.1) ];
  begins = λ ts us h. elim (a.begins ts us h) [ inl s ↦ inl s | inr s ↦ inr (head_within L kinds every f g w ts s) ];
  more = a.more;
}

-- the same claim at other limits, which the loop counts
module _ (L : Language) {A : Type 0} (lim : Bool) (R : Bounds → Reading L.Token A) (G : Bounds → Prefixing L.Token) (f x : L.Kind → Bool) (facts' : (i : Bounds) → Facts L (R i) (G i) f false (R (up i))) (apart : Apart L x f) (w d : ℕ) where
  open L use {Kind, Token}

  abbrev AtRoom : Bounds → Reading Token (List A)
  AtRoom i ts xs us = Many (R i) (room_of lim i.0) ts xs us

  abbrev PrefixAtRoom : Bounds → Prefixing Token
  PrefixAtRoom i ts us = (xs : List A) × ManyPrefix (R i) (G i) (room_of lim i.0) xs ts us

  abbrev x' : Kind → Bool
  x' k = f k || x k

  room_up : (m : Bool) → more_room (room_of m w) ≡ room_of m (suc w)
  room_up true = refl
  room_up false = refl

  at_room : (ts : List Token) (r : Outcome Token (List A))
      → Meets L (Loop L R G f x up facts' apart) (LoopPrefix L R G f x up facts' apart) x' (room_of lim w, (w, d)) (more_room (room_of lim w), (suc w, suc d)) ts r
      → Meets L AtRoom PrefixAtRoom x' (w, d) (suc w, suc d) ts r
  at_room ts (Ok p) m = record { derives = m.derives; ends = λ i. m.ends (room_of lim i.0, i); only = λ i. m.only (room_of lim i.0, i) }
  at_room ts (Err (Syntax n)) m = record { rest = m.rest; count = m.count; prefix = m.prefix; ends = λ i. m.ends (room_of lim i.0, i); only = λ i. m.only (room_of lim i.0, i) }
  at_room ts (Err (Limit n)) m = record {
    rest = m.rest;
    count = m.count;
    prefix = m.prefix;
    ends = m.ends;
    more = (m.more.0, m.more.1, (m.more.2.0, subst (λ room. ManyPrefix (R (suc w, suc d)) (G (suc w, suc d)) room m.more.2.0 ts m.more.0) (room_up lim) m.more.2.1));
    only = m.only;
  }

meets_within : (L : Language) (kinds : List L.Kind) → HasEvery kinds → {A I : Type 0} (R : I → Reading L.Token A) (G : I → Prefixing L.Token) (x y : L.Kind → Bool) (here beyond : I) (ts : List L.Token) → within kinds x y ≡ true
    → (r : Outcome L.Token A) → Meets L R G x here beyond ts r → Meets L R G y here beyond ts r
meets_within L kinds every R G x y here beyond ts w (Ok p) m = record { derives = m.derives; ends = m.ends; only = λ i t vs h. elim (m.only i t vs h) [ inl same ↦ inl same | inr e ↦ inr (head_within L kinds every x y w vs e) ] }
meets_within L kinds every R G x y here beyond ts w (Err (Syntax n)) m = record { rest = m.rest; count = m.count; prefix = m.prefix; ends = m.ends; only = λ i t vs h. head_within L kinds every x y w vs (m.only i t vs h) }
meets_within L kinds every R G x y here beyond ts w (Err (Limit n)) m = record { rest = m.rest; count = m.count; prefix = m.prefix; ends = m.ends; more = m.more; only = λ t vs h. head_within L kinds every x y w vs (m.only t vs h) }

module _ {L : Language} (G : Grammar L) (kinds : List L.Kind) (inner_ext : L.Inner → L.Kind → Bool) (decided : IsDecided G kinds inner_ext) where
  open L use {Kind, Token, Inner, Tree}
  open G use {rule, inner_first}

  -- ---- facts at every limit

  deep_facts : (w d : ℕ) (r : Inner) → Facts L (Deep G w d r) (DeepPrefix G w d r) (inner_first r) false (Deep G (suc w) (suc d) r)
  unfolding Deep DeepPrefix
  deep_facts w zero r = record {
    none = λ ts. refl;
    whole = λ ts t us h. absurd h;
    starts = λ ts t us h. absurd h;
    begins = λ ts us h. inl h;
    more = λ ts t us h. absurd h;
  }
  deep_facts w (suc d) r =
      facts_within kinds decided.every (decided.first_fits r) (decided.never_null r) (facts_of L inner_first (can_open d) (Deep G w d) w (DeepPrefix G w d) (can_open (suc d)) (Deep G (suc w) (suc d)) (λ _. refl) (deep_facts w d) (rule r))

  abbrev pub S : {A : Type 0} → Form L A → Bounds → Reading Token A
  S f i = Derives G i.0 i.1 f

  abbrev pub F : {A : Type 0} → Form L A → Bounds → Prefixing Token
  F f i = ViablePrefix G i.0 i.1 f

  pub facts : {A : Type 0} (f : Form L A) (i : Bounds) → Facts L (S f i) (F f i) (first L inner_first f) (nullable f) (S f (up i))
  facts f i = facts_of L inner_first (can_open i.1) (Deep G i.0 i.1) i.0 (DeepPrefix G i.0 i.1) (can_open (suc i.1)) (Deep G (suc i.0) (suc i.1)) (λ _. refl) (deep_facts i.0 i.1) f

  non_null : {A : Type 0} (f : Form L A) → not (nullable f) ≡ true → (i : Bounds) → Facts L (S f i) (F f i) (first L inner_first f) false (S f (up i))
  non_null f e i = subst (λ b. Facts L (S f i) (F f i) (first L inner_first f) b (S f (up i))) (go (nullable f) e) (facts f i)
    where
      go : (b : Bool) → not b ≡ true → b ≡ false
      go true e = cc
      go false e = refl

  -- ---- reading

  abbrev pub ext_of : {A : Type 0} → Form L A → Kind → Bool
  ext_of f = ext L inner_first inner_ext f

  -- The reading of a form within some limits meets the grammar: a derived value, or the longest viable prefix.
  abbrev pub IsFine : (w d : ℕ) {A : Type 0} → Form L A → Type 0
  IsFine w d f = (ts : List Token) → Meets L (S f) (F f) (ext_of f) (w, d) (suc w, suc d) ts (reads G w d f ts)

  abbrev pub InnerFine : (w d : ℕ) → Type 0
  InnerFine w d = (r : Inner) (ts : List Token) → Meets L (λ (i : Bounds). Deep G i.0 i.1 r) (λ (i : Bounds). DeepPrefix G i.0 i.1 r) (inner_ext r) (w, d) (suc w, suc d) ts (deep_at G w d r ts)

  module _ (w d : ℕ) (deep : can_open d ≡ true → InnerFine w d) where
    many_fine : {A : Type 0} (lim : Bool) (f : Form L A) → not (nullable f) ≡ true → Apart L (ext_of f) (first L inner_first f) → (not lim || leads L inner_first inner_ext f) ≡ true → IsFine w d f → IsFine w d (many lim f)
    many_fine {A} lim f full apart lead rec ts =
        at_room L lim (S f) (F f) (first L inner_first f) (ext_of f) (non_null f full) apart w d ts (reads G w d (many lim f) ts) (go lim lead)
      where
        go : (l : Bool) → (not l || leads L inner_first inner_ext f) ≡ true
            → Meets L (Loop L (S f) (F f) (first L inner_first f) (ext_of f) up (non_null f full) apart) (LoopPrefix L (S f) (F f) (first L inner_first f) (ext_of f) up (non_null f full) apart) (loop_ext L (S f) (F f) (first L inner_first f) (ext_of f) up (non_null f full) apart)
            (room_of l w, (w, d)) (more_room (room_of l w), (suc w, suc d)) ts (many_at L.kind l (reads G w d f) (first L inner_first f) (if l then w else length ts) ts)
        go true e = loop_meets L (S f) (F f) (first L inner_first f) (ext_of f) up (non_null f full) apart (w, d) true (reads G w d f) rec w (at_most w) ts
            (refl, λ y ms b. leads_front L inner_first inner_ext (can_open (suc d)) (Deep G (suc w) (suc d)) (suc w) (DeepPrefix G (suc w) (suc d)) f e y ms b) refl
        go false e = loop_meets L (S f) (F f) (first L inner_first f) (ext_of f) up (non_null f full) apart (w, d) false (reads G w d f) rec (length ts) any ts tt (omega arith)

    abbrev Good : Bool → {A : Type 0} → Form L A → Bool
    Good o f = good L inner_first inner_ext kinds o f

    fine : {A : Type 0} (f : Form L A) (o : Bool) → (o ≡ true → can_open d ≡ true) → good L inner_first inner_ext kinds o f ≡ true → IsFine w d f
    fine (word p) o h g ts = word_meets L Bounds p (w, d) (suc w, suc d) ts
    fine (nothing a) o h g ts = nothing_meets L a (w, d) (suc w, suc d) (λ k. false) ts
    fine (both f f') o h g ts =
        both_meets L (S f) (F f) (first L inner_first f) (ext_of f) (nullable f) (S f') (F f') (first L inner_first f') (ext_of f') (nullable f') up (facts f) (facts f')
        (Apart-apart L kinds decided.every _ _ (and_right (Good o f') _ (and_right (Good o f) _ g)))
        (w, d) ts (reads G w d f ts) (reads G w d f') (fine f o h (and_left _ _ g) ts) (fine f' o h (and_left _ _ (and_right (Good o f) _ g)))
    fine (either f f') o h g ts =
        let g' = and_right (Good o f) _ g in
        let g'' = and_right (Good o f') _ g' in
        either_meets L (S f) (F f) (first L inner_first f) (ext_of f) (S f') (F f') (first L inner_first f') (ext_of f') (nullable f') up (non_null f (and_left _ _ g'')) (facts f')
        (Apart-apart L kinds decided.every _ _ (and_right (not (nullable f)) _ g''))
        (w, d) ts (reads G w d f ts) (reads G w d f' ts) (fine f o h (and_left _ _ g) ts) (fine f' o h (and_left _ _ g') ts)
    fine (made make f) o h g ts = made_meets L (S f) (F f) (ext_of f) make (w, d) (suc w, suc d) ts (reads G w d f ts) (fine f o h g ts)
    fine (many lim f) o h g ts =
        let g' = and_right (Good o f) _ g in
        let g'' = and_right (not (nullable f)) _ g' in
        many_fine lim f (and_left _ _ g') (Apart-apart L kinds decided.every _ _ (and_left _ _ g'')) (and_right _ (not lim || leads L inner_first inner_ext f) g'') (fine f o h (and_left _ _ g)) ts
    fine (nest p f) o h g ts = nest_meets L (S f) (F f) (first L inner_first f) (ext_of f) (nullable f) up (facts f) p (λ i. can_open i.1) (w, d) refl ts (reads G w d f) (λ e. fine f true (λ _. e) g)
    fine (inner r) o h g ts = deep (h g) r ts

  -- ---- an inner rule, and so every form

  module _ (r : Inner) (w d : ℕ) (ts : List Token) where
    abbrev DeepMeets : Outcome Token (Tree r) → Type 0
    DeepMeets out = Meets L (λ (i : Bounds). Deep G i.0 i.1 r) (λ (i : Bounds). DeepPrefix G i.0 i.1 r) (inner_ext r) (w, suc d) (suc w, suc (suc d)) ts out

    deep_ends : (n : ℕ) → n ≤ length ts → ((i : Bounds) (vs : List Token) → F (rule r) i ts vs → n ≤ length vs) → (i : Bounds) (vs : List Token) → DeepPrefix G i.0 i.1 r ts vs → n ≤ length vs
    unfolding DeepPrefix
    deep_ends n l ends i vs = go i.1
      where
        go : (e : ℕ) → DeepPrefix G i.0 e r ts vs → n ≤ length vs
        go zero h = omega (arith, ap length h)
        go (suc e) h = ends (i.0, e) vs h

    deep_only : {P : Tree r → List Token → Type 0} → ((i : Bounds) (t : Tree r) (vs : List Token) → S (rule r) i ts t vs → P t vs) → (i : Bounds) (t : Tree r) (vs : List Token) → Deep G i.0 i.1 r ts t vs → P t vs
    unfolding Deep
    deep_only {P} only i t vs = go i.1
      where
        go : (e : ℕ) → Deep G i.0 e r ts t vs → P t vs
        go zero h = absurd h
        go (suc e) h = only (i.0, e) t vs h

    lower : (out : Outcome Token (Tree r)) → Meets L (S (rule r)) (F (rule r)) (inner_ext r) (w, d) (suc w, suc d) ts out → DeepMeets out
    unfolding Deep DeepPrefix
    lower (Ok p) m = record {
      derives = m.derives;
      ends = deep_ends (length p.1) (m.ends (w, d) ts ((facts (rule r) (w, d)).none ts)) m.ends;
      only = deep_only m.only;
    }
    lower (Err (Syntax n)) m = record {
      rest = m.rest;
      count = m.count;
      prefix = m.prefix;
      ends = deep_ends n (m.ends (w, d) ts ((facts (rule r) (w, d)).none ts)) m.ends;
      only = deep_only m.only;
    }
    lower (Err (Limit n)) m = record { rest = m.rest; count = m.count; prefix = m.prefix; ends = m.ends; more = m.more; only = m.only }

  pub inner_fine : (w d : ℕ) → can_open d ≡ true → InnerFine w d
  unfolding deep_at
  inner_fine w zero e r ts = (cc)
  inner_fine w (suc d) e r ts =
      lower r w d ts (reads G w d (rule r) ts)
      (meets_within L kinds decided.every (S (rule r)) (F (rule r)) (ext_of (rule r)) (inner_ext r) (w, d) (suc w, suc d) ts (decided.ext_fits r) (reads G w d (rule r) ts)
      (fine w d (inner_fine w d) (rule r) false (λ q. (cc)) (decided.rules_good r) ts))

  -- Every form that one token decides is read as the grammar derives it.
  pub is_fine : {A : Type 0} (f : Form L A) → good L inner_first inner_ext kinds false f ≡ true → (w d : ℕ) → IsFine w d f
  is_fine f g w d ts = fine w d (inner_fine w d) f false (λ q. (cc)) g ts
