-- The result of reading by one token ahead, of the form of a rule that one token decides.
use Rattle.std.proofs.Common.{◌≡◌, ℕ, zero, suc, ◌<◌, ◌≤◌, ◌⊎◌, inl, inr, Bool, true, false, ◌&&◌, ◌||◌, List, [], ◌∷◌, length, Ok, Err, refl, sym, ap, ◌∙◌, subst, arith}
use Rattle.std.specs.Prelude.{if◌then◌else◌}
use Rattle.row_grammar.specs.Grammar.{Language}
use Rattle.row_grammar.specs.Meaning.{Reading, Prefixing, Room, any, at_most, HasRoom, one_less, Many, ManyPrefix}
use Rattle.row_grammar.specs.Decoder.{◌>>=◌, Outcome, head_in, word_at, opened_at, stop_at, many_at, run}
use Rattle.row_grammar.specs.declared.error.ReadError.TheVariants.{Syntax, Limit}
use Rattle.row_grammar.proofs.Facts.{Facts, more_room, many_starts, many_begins, head_or_left, head_or_right, head_and}

module _ (L : Language) where
  open L use {Kind, Token, kind}

  -- a value was read
  pub record IsRead {A I : Type 0} (S : I → Reading Token A) (F : I → Prefixing Token) (x : Kind → Bool) (here : I) (ts : List Token) (t : A) (us : List Token) : Type 0 where
    pub derives : S here ts t us
    -- no viable prefix goes further, under any limits
    pub ends : (i : I) (vs : List Token) → F i ts vs → length us ≤ length vs
    -- another value of the form ends before a token that extends it
    pub only : (i : I) (t' : A) (vs : List Token) → S i ts t' vs → ((t' ≡ t) × (vs ≡ us)) ⊎ (head_in kind x vs ≡ true)

  -- the grammar does not go on at the nth token from the end
  pub record IsStopped {A I : Type 0} (S : I → Reading Token A) (F : I → Prefixing Token) (x : Kind → Bool) (here : I) (ts : List Token) (n : ℕ) : Type 0 where
    pub rest : List Token
    pub count : length rest ≡ n
    pub prefix : F here ts rest
    pub ends : (i : I) (vs : List Token) → F i ts vs → n ≤ length vs
    pub only : (i : I) (t : A) (vs : List Token) → S i ts t vs → head_in kind x vs ≡ true

  -- a limit is passed at the nth token from the end, where the grammar goes on
  pub record IsLimited {A I : Type 0} (S : I → Reading Token A) (F : I → Prefixing Token) (x : Kind → Bool) (here beyond : I) (ts : List Token) (n : ℕ) : Type 0 where
    pub rest : List Token
    pub count : length rest ≡ n
    pub prefix : F here ts rest
    pub ends : (vs : List Token) → F here ts vs → n ≤ length vs
    pub more : (vs : List Token) × (suc (length vs) ≡ n) × F beyond ts vs
    pub only : (t : A) (vs : List Token) → S here ts t vs → head_in kind x vs ≡ true

  abbrev pub Meets : {A I : Type 0} → (I → Reading Token A) → (I → Prefixing Token) → (Kind → Bool) → I → I → List Token → Outcome Token A → Type 0
  Meets S F x here beyond ts (Ok p) = IsRead S F x here ts p.0 p.1
  Meets S F x here beyond ts (Err (Syntax n)) = IsStopped S F x here ts n
  Meets S F x here beyond ts (Err (Limit n)) = IsLimited S F x here beyond ts n

  abbrev pub Apart : (Kind → Bool) → (Kind → Bool) → Type 0
  Apart p q = (k : Kind) → p k ≡ true → q k ≡ true → ⊥

  pub apart_at : (p q : Kind → Bool) → Apart p q → (ts : List Token) → head_in kind p ts ≡ true → head_in kind q ts ≡ true → ⊥
  apart_at p q h [] a b = cc
  apart_at p q h (t ∷ ts) a b = h (kind t) a b

  pub same_pair : {A B : Type 0} (t : A × B) (a : A) (b : B) → t.0 ≡ a → t.1 ≡ b → t ≡ (a, b)
  same_pair {A} {B} t a b p q = ap (λ (x : A). let y : A × B = (x, t.1) in y) p ∙ ap (λ (x : B). let y : A × B = (a, x) in y) q

  -- ---- one form, then another

  module _ {A B I : Type 0} (S : I → Reading Token A) (F : I → Prefixing Token) (f x : Kind → Bool) (null : Bool)
      (S' : I → Reading Token B) (F' : I → Prefixing Token) (f' x' : Kind → Bool) (null' : Bool) (up : I → I)
      (facts : (i : I) → Facts L (S i) (F i) f null (S (up i))) (facts' : (i : I) → Facts L (S' i) (F' i) f' null' (S' (up i)))
      (apart : Apart x f') where
    abbrev pub Both : I → Reading Token (A × B)
    Both i ts t vs = (us : List Token) × S i ts t.0 us × S' i us t.1 vs

    abbrev pub BothPrefix : I → Prefixing Token
    BothPrefix i ts vs = F i ts vs ⊎ ((a : A) × (us : List Token) × S i ts a us × F' i us vs)

    abbrev pub both_ext : Kind → Bool
    both_ext k = x' k || (null' && x k)

    -- after a first part that could go on, the second part has no more than its empty viable prefix
    after_front : (i : I) (ms vs : List Token) → head_in kind x ms ≡ true → F' i ms vs → vs ≡ ms
    after_front i ms vs e h = elim ((facts' i).begins ms vs h) [ inl same ↦ same | inr starts ↦ absurd (apart_at x f' apart ms e starts) ]

    after_value : (i : I) (ms : List Token) (t : B) (vs : List Token) → head_in kind x ms ≡ true → S' i ms t vs → head_in kind both_ext vs ≡ true
    after_value i ms t vs e h = elim ((facts' i).starts ms t vs h) [
      | inl starts ↦ absurd (apart_at x f' apart ms e starts.0)
      | inr none ↦ head_or_right L x' (λ k. null' && x k) vs (head_and L null' x vs none.0 (subst (λ l. head_in kind x l ≡ true) (sym none.1) e))
    ]

    both_stopped : (here : I) (ts : List Token) (n : ℕ) → IsStopped S F x here ts n → IsStopped Both BothPrefix both_ext here ts n
    both_stopped here ts n m = record {
      rest = m.rest;
      count = m.count;
      prefix = inl m.prefix;
      ends = λ i vs. elim [
        | inl h ↦ m.ends i vs h
        | inr h ↦ (let e = after_front i h.1 vs (m.only i h.0 h.1 h.2) h.3 in
            let l = m.ends i h.1 ((facts i).whole ts h.0 h.1 h.2) in omega (arith, ap length e))
      ];
      only = λ i t vs h. after_value i h.0 t.1 vs (m.only i t.0 h.0 h.1) h.2;
    }

    both_limited : (here beyond : I) (ts : List Token) (n : ℕ) → IsLimited S F x here beyond ts n → IsLimited Both BothPrefix both_ext here beyond ts n
    both_limited here beyond ts n m = record {
      rest = m.rest;
      count = m.count;
      prefix = inl m.prefix;
      ends = λ vs. elim [
        | inl h ↦ m.ends vs h
        | inr h ↦ (let e = after_front here h.1 vs (m.only h.0 h.1 h.2) h.3 in
            let l = m.ends h.1 ((facts here).whole ts h.0 h.1 h.2) in omega (arith, ap length e))
      ];
      more = (m.more.0, m.more.1, inl m.more.2);
      only = λ t vs h. after_value here h.0 t.1 vs (m.only t.0 h.0 h.1) h.2;
    }

    module _ (here : I) (ts : List Token) (a : A) (us : List Token) (m : IsRead S F x here ts a us) where
      -- a second part that is read or not from where the first part ended
      both_ends : (n : ℕ) (i : I) → ((vs : List Token) → F' i us vs → n ≤ length vs) → (vs : List Token) → BothPrefix i ts vs → n ≤ length vs
      both_ends n i ends vs (inl h) =
          let l = m.ends i vs h in
          let l' = ends us ((facts' i).none us) in omega arith
      both_ends n i ends vs (inr h) = elim (m.only i h.0 h.1 h.2) [
        | inl same ↦ ends vs (subst (λ l. F' i l vs) same.1 h.3)
        | inr e ↦ (let q = after_front i h.1 vs e h.3 in
            let l = m.ends i h.1 ((facts i).whole ts h.0 h.1 h.2) in
            let l' = ends us ((facts' i).none us) in omega (arith, ap length q))
      ]

      both_only : (i : I) → ((t : B) (vs : List Token) → S' i us t vs → head_in kind x' vs ≡ true) → (t : A × B) (vs : List Token) → Both i ts t vs → head_in kind both_ext vs ≡ true
      both_only i only t vs h = elim (m.only i t.0 h.0 h.1) [
        | inl same ↦ head_or_left L x' (λ k. null' && x k) vs (only t.1 vs (subst (λ l. S' i l t.1 vs) same.1 h.2))
        | inr e ↦ after_value i h.0 t.1 vs e h.2
      ]

      both_read : (b : B) (vs : List Token) → IsRead S' F' x' here us b vs → IsRead Both BothPrefix both_ext here ts (a, b) vs
      both_read b vs m' = record {
        derives = (us, m.derives, m'.derives);
        ends = λ i. both_ends (length vs) i (m'.ends i);
        only = λ i t ws h. elim (m.only i t.0 h.0 h.1) [
          | inl same ↦ elim (m'.only i t.1 ws (subst (λ l. S' i l t.1 ws) same.1 h.2)) [
            | inl same' ↦ inl (same_pair t a b same.0 same'.0, same'.1)
            | inr e ↦ inr (head_or_left L x' (λ k. null' && x k) ws e)
          ]
          | inr e ↦ inr (after_value i h.0 t.1 ws e h.2)
        ];
      }

      both_stopped' : (n : ℕ) → IsStopped S' F' x' here us n → IsStopped Both BothPrefix both_ext here ts n
      both_stopped' n m' = record {
        rest = m'.rest;
        count = m'.count;
        prefix = inr (a, us, m.derives, m'.prefix);
        ends = λ i. both_ends n i (m'.ends i);
        only = λ i. both_only i (m'.only i);
      }

      both_limited' : (n : ℕ) → IsLimited S' F' x' here (up here) us n → IsLimited Both BothPrefix both_ext here (up here) ts n
      both_limited' n m' = record {
        rest = m'.rest;
        count = m'.count;
        prefix = inr (a, us, m.derives, m'.prefix);
        ends = both_ends n here m'.ends;
        more = (m'.more.0, m'.more.1, inr (a, us, (facts here).more ts a us m.derives, m'.more.2));
        only = both_only here m'.only;
      }

      both_then : (r : Outcome Token B) → Meets S' F' x' here (up here) us r → Meets Both BothPrefix both_ext here (up here) ts (r >>= λ y. Ok ((a, y.0), y.1))
      both_then (Ok p) m' = both_read p.0 p.1 m'
      both_then (Err (Syntax n)) m' = both_stopped' n m'
      both_then (Err (Limit n)) m' = both_limited' n m'

    pub both_meets : (here : I) (ts : List Token) (r : Outcome Token A) (next : List Token → Outcome Token B) → Meets S F x here (up here) ts r
        → ((us : List Token) → Meets S' F' x' here (up here) us (next us))
        → Meets Both BothPrefix both_ext here (up here) ts (r >>= λ a. next a.1 >>= λ b. Ok ((a.0, b.0), b.1))
    both_meets here ts (Ok p) next m m' = both_then here ts p.0 p.1 m (next p.1) (m' p.1)
    both_meets here ts (Err (Syntax n)) next m m' = both_stopped here ts n m
    both_meets here ts (Err (Limit n)) next m m' = both_limited here (up here) ts n m

  -- ---- one form or another

  module _ {A I : Type 0} (S : I → Reading Token A) (F : I → Prefixing Token) (f x : Kind → Bool)
      (S' : I → Reading Token A) (F' : I → Prefixing Token) (f' x' : Kind → Bool) (null' : Bool) (up : I → I)
      (facts : (i : I) → Facts L (S i) (F i) f false (S (up i))) (facts' : (i : I) → Facts L (S' i) (F' i) f' null' (S' (up i)))
      (apart : Apart f f') where
    abbrev pub Either : I → Reading Token A
    Either i ts t us = S i ts t us ⊎ S' i ts t us

    abbrev pub EitherPrefix : I → Prefixing Token
    EitherPrefix i ts us = F i ts us ⊎ F' i ts us

    abbrev pub either_ext : Kind → Bool
    either_ext k = (x k || x' k) || (null' && f k)

    ext_left : (vs : List Token) → head_in kind x vs ≡ true → head_in kind either_ext vs ≡ true
    ext_left vs h = head_or_left L (λ k. x k || x' k) (λ k. null' && f k) vs (head_or_left L x x' vs h)

    ext_right : (vs : List Token) → head_in kind x' vs ≡ true → head_in kind either_ext vs ≡ true
    ext_right vs h = head_or_left L (λ k. x k || x' k) (λ k. null' && f k) vs (head_or_right L x x' vs h)

    -- the first form starts here, so the second has no more than its empty viable prefix
    module _ (ts : List Token) (begins : head_in kind f ts ≡ true) where
      no_front' : (i : I) (vs : List Token) → F' i ts vs → vs ≡ ts
      no_front' i vs h = elim ((facts' i).begins ts vs h) [ inl same ↦ same | inr starts ↦ absurd (apart_at f f' apart ts begins starts) ]

      empty' : (i : I) (t : A) (vs : List Token) → S' i ts t vs → head_in kind either_ext vs ≡ true
      empty' i t vs h = elim ((facts' i).starts ts t vs h) [
        | inl starts ↦ absurd (apart_at f f' apart ts begins starts.0)
        | inr none ↦ head_or_right L (λ k. x k || x' k) (λ k. null' && f k) vs (head_and L null' f vs none.0 (subst (λ l. head_in kind f l ≡ true) (sym none.1) begins))
      ]

      left_ends : (n : ℕ) (i : I) → ((vs : List Token) → F i ts vs → n ≤ length vs) → (vs : List Token) → EitherPrefix i ts vs → n ≤ length vs
      left_ends n i ends vs (inl h) = ends vs h
      left_ends n i ends vs (inr h) = let e = no_front' i vs h in let l = ends ts ((facts i).none ts) in omega (arith, ap length e)

      left_only : (i : I) → ((t : A) (vs : List Token) → S i ts t vs → head_in kind x vs ≡ true) → (t : A) (vs : List Token) → Either i ts t vs → head_in kind either_ext vs ≡ true
      left_only i only t vs (inl h) = ext_left vs (only t vs h)
      left_only i only t vs (inr h) = empty' i t vs h

      pub left_meets : (here : I) (r : Outcome Token A) → Meets S F x here (up here) ts r → Meets Either EitherPrefix either_ext here (up here) ts r
      left_meets here (Ok p) m = record {
        derives = inl m.derives;
        ends = λ i. left_ends (length p.1) i (m.ends i);
        only = λ i t vs. elim [
          | inl h ↦ elim (m.only i t vs h) [ inl same ↦ inl same | inr e ↦ inr (ext_left vs e) ]
          | inr h ↦ inr (empty' i t vs h)
        ];
      }
      left_meets here (Err (Syntax n)) m = record { rest = m.rest; count = m.count; prefix = inl m.prefix; ends = λ i. left_ends n i (m.ends i); only = λ i. left_only i (m.only i) }
      left_meets here (Err (Limit n)) m = record { rest = m.rest; count = m.count; prefix = inl m.prefix; ends = left_ends n here m.ends; more = (m.more.0, m.more.1, inl m.more.2); only = left_only here m.only }

    -- the first form does not start here
    module _ (ts : List Token) (begins : head_in kind f ts ≡ false) where
      no_front : (i : I) (vs : List Token) → F i ts vs → vs ≡ ts
      no_front i vs h = elim ((facts i).begins ts vs h) [ inl same ↦ same | inr starts ↦ (cc) ]

      no_value : (i : I) (t : A) (vs : List Token) → S i ts t vs → ⊥
      no_value i t vs h = elim ((facts i).starts ts t vs h) [ inl starts ↦ (let e = starts.0 in cc) | inr none ↦ (let e = none.0 in cc) ]

      right_ends : (n : ℕ) (i : I) → ((vs : List Token) → F' i ts vs → n ≤ length vs) → (vs : List Token) → EitherPrefix i ts vs → n ≤ length vs
      right_ends n i ends vs (inr h) = ends vs h
      right_ends n i ends vs (inl h) = let e = no_front i vs h in let l = ends ts ((facts' i).none ts) in omega (arith, ap length e)

      right_only : (i : I) → ((t : A) (vs : List Token) → S' i ts t vs → head_in kind x' vs ≡ true) → (t : A) (vs : List Token) → Either i ts t vs → head_in kind either_ext vs ≡ true
      right_only i only t vs (inr h) = ext_right vs (only t vs h)
      right_only i only t vs (inl h) = absurd (no_value i t vs h)

      pub right_meets : (here : I) (r : Outcome Token A) → Meets S' F' x' here (up here) ts r → Meets Either EitherPrefix either_ext here (up here) ts r
      right_meets here (Ok p) m = record {
        derives = inr m.derives;
        ends = λ i. right_ends (length p.1) i (m.ends i);
        only = λ i t vs. elim [
          | inr h ↦ elim (m.only i t vs h) [ inl same ↦ inl same | inr e ↦ inr (ext_right vs e) ]
          | inl h ↦ absurd (no_value i t vs h)
        ];
      }
      right_meets here (Err (Syntax n)) m = record { rest = m.rest; count = m.count; prefix = inr m.prefix; ends = λ i. right_ends n i (m.ends i); only = λ i. right_only i (m.only i) }
      right_meets here (Err (Limit n)) m = record { rest = m.rest; count = m.count; prefix = inr m.prefix; ends = right_ends n here m.ends; more = (m.more.0, m.more.1, inr m.more.2); only = right_only here m.only }

    pub either_meets : (here : I) (ts : List Token) (r r' : Outcome Token A) → Meets S F x here (up here) ts r → Meets S' F' x' here (up here) ts r'
        → Meets Either EitherPrefix either_ext here (up here) ts (if head_in kind f ts then r else r')
    either_meets here ts r r' m m' = go (head_in kind f ts) refl
      where
        go : (b : Bool) → head_in kind f ts ≡ b → Meets Either EitherPrefix either_ext here (up here) ts (if b then r else r')
        go true e = left_meets ts e here r m
        go false e = right_meets ts e here r' m'

  -- ---- a value made of another

  module _ {A B I : Type 0} (S : I → Reading Token A) (F : I → Prefixing Token) (x : Kind → Bool) (make : A → B) where
    abbrev pub Made : I → Reading Token B
    Made i ts t us = (a : A) × S i ts a us × (t ≡ make a)

    pub made_meets : (here beyond : I) (ts : List Token) (r : Outcome Token A) → Meets S F x here beyond ts r → Meets Made F x here beyond ts (r >>= λ a. Ok (make a.0, a.1))
    made_meets here beyond ts (Ok p) m = record {
      derives = (p.0, m.derives, refl);
      ends = m.ends;
      only = λ i t vs h. elim (m.only i h.0 vs h.1) [ inl same ↦ inl (h.2 ∙ ap make same.0, same.1) | inr e ↦ inr e ];
    }
    made_meets here beyond ts (Err (Syntax n)) m = record { rest = m.rest; count = m.count; prefix = m.prefix; ends = m.ends; only = λ i t vs h. m.only i h.0 vs h.1 }
    made_meets here beyond ts (Err (Limit n)) m = record { rest = m.rest; count = m.count; prefix = m.prefix; ends = m.ends; more = m.more; only = λ t vs h. m.only h.0 vs h.1 }

  -- ---- a token, and nothing

  module _ (I : Type 0) (p : Kind → Bool) where
    abbrev pub Word : I → Reading Token Token
    Word i ts t us = (ts ≡ t ∷ us) × (p (kind t) ≡ true)

    abbrev pub WordPrefix : I → Prefixing Token
    WordPrefix i ts us = (us ≡ ts) ⊎ ((t : Token) × (ts ≡ t ∷ us) × (p (kind t) ≡ true))

    abbrev pub none_ext : Kind → Bool
    none_ext k = false

    pub word_meets : (here beyond : I) (ts : List Token) → Meets Word WordPrefix none_ext here beyond ts (word_at kind p ts)
    word_meets here beyond [] = record {
      rest = [];
      count = refl;
      prefix = inl refl;
      ends = λ i vs h. omega arith;
      only = λ i t vs h. (let e = h.0 in cc);
    }
    word_meets here beyond (x ∷ xs) = go (p (kind x)) refl
      where
        go : (b : Bool) → p (kind x) ≡ b → Meets Word WordPrefix none_ext here beyond (x ∷ xs) (if b then Ok (x, xs) else Err (Syntax (length (x ∷ xs))))
        go true e = record {
          derives = (refl, e);
          ends = λ i vs. elim [ inl h ↦ omega (arith, ap length h) | inr h ↦ omega (arith, ap length h.1) ];
          only = λ i t vs h. inl (let q = h.0 in let r : t ≡ x = cc in r, let q = h.0 in let r : vs ≡ xs = cc in r);
        }
        go false e = record {
          rest = x ∷ xs;
          count = refl;
          prefix = inl refl;
          ends = λ i vs. elim [ inl h ↦ omega (arith, ap length h) | inr h ↦ (let q = h.1 in let r : h.0 ≡ x = cc in absurd (wrong h.0 r h.2)) ];
          only = λ i t vs h. (let q = h.0 in let r : t ≡ x = cc in absurd (wrong t r h.1));
        }
          where
            wrong : (t : Token) → t ≡ x → p (kind t) ≡ true → ⊥
            wrong t r h = let r' : p (kind x) ≡ true = subst (λ (y : Token). p (kind y) ≡ true) r h in cc

  module _ {A I : Type 0} (a : A) where
    abbrev pub Nothing : I → Reading Token A
    Nothing i ts t us = (ts ≡ us) × (t ≡ a)

    abbrev pub NothingPrefix : I → Prefixing Token
    NothingPrefix i ts us = us ≡ ts

    pub nothing_meets : (here beyond : I) (x : Kind → Bool) (ts : List Token) → Meets Nothing NothingPrefix x here beyond ts (Ok (a, ts))
    nothing_meets here beyond x ts = record {
      derives = (refl, refl);
      ends = λ i vs h. omega (arith, ap length h);
      only = λ i t vs h. inl (h.1, sym h.0);
    }

  -- ---- a level deeper

  module _ {A I : Type 0} (S : I → Reading Token A) (F : I → Prefixing Token) (f x : Kind → Bool) (null : Bool) (up : I → I)
      (facts : (i : I) → Facts L (S i) (F i) f null (S (up i))) (p : Kind → Bool) (opens : I → Bool) where
    abbrev pub Nest : I → Reading Token (Token × A)
    Nest i ts t us = (opens i ≡ true) × ((ms : List Token) × (ts ≡ t.0 ∷ ms) × (p (kind t.0) ≡ true) × S i ms t.1 us)

    abbrev pub NestPrefix : I → Prefixing Token
    NestPrefix i ts us = (us ≡ ts) ⊎ ((opens i ≡ true) × ((y : Token) × (ms : List Token) × (ts ≡ y ∷ ms) × (p (kind y) ≡ true) × F i ms us))

    tail_same : (y : Token) (ms : List Token) (z : Token) (ls : List Token) → y ∷ ms ≡ z ∷ ls → ls ≡ ms
    tail_same y ms z ls e = cc

    head_same : (y : Token) (ms : List Token) (z : Token) (ls : List Token) → y ∷ ms ≡ z ∷ ls → z ≡ y
    head_same y ms z ls e = cc

    -- the token that opened the level, and what was read inside it
    abbrev nested : Token → Outcome Token A → Outcome Token (Token × A)
    nested y r = r >>= λ q. Ok ((y, q.0), q.1)

    module _ (here : I) (y : Token) (ms : List Token) (is : p (kind y) ≡ true) (open_ : opens here ≡ true) where
      nest_ends : (n : ℕ) (i : I) → ((vs : List Token) → F i ms vs → n ≤ length vs) → (vs : List Token) → NestPrefix i (y ∷ ms) vs → n ≤ length vs
      nest_ends n i ends vs (inl h) = let l = ends ms ((facts i).none ms) in omega (arith, ap length h)
      nest_ends n i ends vs (inr h) = ends vs (subst (λ l. F i l vs) (tail_same y ms h.1.0 h.1.1 h.1.2) h.1.4)

      inside : (i : I) (t : Token × A) (vs : List Token) → Nest i (y ∷ ms) t vs → S i ms t.1 vs
      inside i t vs h = subst (λ l. S i l t.1 vs) (tail_same y ms t.0 h.1.0 h.1.1) h.1.3

      same_value : (i : I) (t : Token × A) (vs : List Token) (a : A) → Nest i (y ∷ ms) t vs → t.1 ≡ a → t ≡ (y, a)
      same_value i t vs a h e = same_pair t y a (head_same y ms t.0 h.1.0 h.1.1) e

      nest_inside : (up_open : opens (up here) ≡ true) (r : Outcome Token A) → Meets S F x here (up here) ms r → Meets Nest NestPrefix x here (up here) (y ∷ ms) (nested y r)
      nest_inside up_open (Ok q) m = record {
        derives = (open_, (ms, refl, is, m.derives));
        ends = λ i. nest_ends (length q.1) i (m.ends i);
        only = λ i t vs h. elim (m.only i t.1 vs (inside i t vs h)) [ inl same ↦ inl (same_value i t vs q.0 h same.0, same.1) | inr e ↦ inr e ];
      }
      nest_inside up_open (Err (Syntax n)) m = record { rest = m.rest; count = m.count; prefix = inr (open_, (y, ms, refl, is, m.prefix)); ends = λ i. nest_ends n i (m.ends i); only = λ i t vs h. m.only i t.1 vs (inside i t vs h) }
      nest_inside up_open (Err (Limit n)) m = record { rest = m.rest; count = m.count; prefix = inr (open_, (y, ms, refl, is, m.prefix)); ends = nest_ends n here m.ends; more = (m.more.0, m.more.1, inr (up_open, (y, ms, refl, is, m.more.2))); only = λ t vs h. m.only t.1 vs (inside here t vs h) }

    nest_limited : (here : I) (up_open : opens (up here) ≡ true) (y : Token) (ms : List Token) → p (kind y) ≡ true → opens here ≡ false → IsLimited Nest NestPrefix x here (up here) (y ∷ ms) (length (y ∷ ms))
    nest_limited here up_open y ms is closed = record {
      rest = y ∷ ms;
      count = refl;
      prefix = inl refl;
      ends = λ vs. elim [ inl h ↦ omega (arith, ap length h) | inr h ↦ (let e = h.0 in cc) ];
      more = (ms, refl, inr (up_open, (y, ms, refl, is, (facts (up here)).none ms)));
      only = λ t vs h. (let e = h.0 in cc);
    }

    nest_stopped : (here : I) (ts : List Token) → head_in kind p ts ≡ false → IsStopped Nest NestPrefix x here ts (length ts)
    nest_stopped here ts not_in = record {
      rest = ts;
      count = refl;
      prefix = inl refl;
      ends = λ i vs. elim [ inl h ↦ omega (arith, ap length h) | inr h ↦ absurd (wrong h.1.0 h.1.1 h.1.2 h.1.3) ];
      only = λ i t vs h. absurd (wrong t.0 h.1.0 h.1.1 h.1.2);
    }
      where
        wrong : (z : Token) (ls : List Token) → ts ≡ z ∷ ls → p (kind z) ≡ true → ⊥
        wrong z ls e h = let r : head_in kind p (z ∷ ls) ≡ false = subst (λ (l : List Token). head_in kind p l ≡ false) e not_in in cc

    pub nest_meets : (here : I) (up_open : opens (up here) ≡ true) (ts : List Token) (run : List Token → Outcome Token A) → (opens here ≡ true → (us : List Token) → Meets S F x here (up here) us (run us))
        → Meets Nest NestPrefix x here (up here) ts (opened_at kind (opens here) p ts >>= λ x. nested x.0 (run x.1))
    nest_meets here up_open [] run m = nest_stopped here [] refl
    nest_meets here up_open (y ∷ ms) run m = go (p (kind y)) refl (opens here) refl
      where
        go : (b : Bool) → p (kind y) ≡ b → (o : Bool) → opens here ≡ o → Meets Nest NestPrefix x here (up here) (y ∷ ms) (◌>>=◌ {A = Token × List Token} (if b then (if o then Ok (y, ms) else Err (Limit (length (y ∷ ms)))) else Err (Syntax (length (y ∷ ms)))) (λ x. nested x.0 (run x.1)))
        go false e o e' = nest_stopped here (y ∷ ms) e
        go true e false e' = nest_limited here up_open y ms e e'
        go true e true e' = nest_inside here y ms e e' up_open (run ms) (m e' ms)

  -- ---- a form any number of times

  module _ {A I : Type 0} (S : I → Reading Token A) (F : I → Prefixing Token) (f x : Kind → Bool) (up : I → I)
      (facts : (i : I) → Facts L (S i) (F i) f false (S (up i))) (apart : Apart x f) where
    abbrev pub Loop : Room × I → Reading Token (List A)
    Loop j ts xs us = Many (S j.1) j.0 ts xs us

    abbrev pub LoopPrefix : Room × I → Prefixing Token
    LoopPrefix j ts us = (xs : List A) × ManyPrefix (S j.1) (F j.1) j.0 xs ts us

    abbrev pub loop_ext : Kind → Bool
    loop_ext k = f k || x k

    -- the bound that the length of the text or the limit sets on the turns of the loop
    abbrev pub Counts : Room → ℕ → List Token → Type 0
    Counts any n ts = length ts ≤ n
    Counts (at_most m) n ts = m ≡ n

    no_more_front : (i : I) (room : Room) (xs : List A) (us vs : List Token) → head_in kind x us ≡ true → ManyPrefix (S i) (F i) room xs us vs → vs ≡ us
    no_more_front i room xs us vs e h = elim (many_begins L _ _ _ _ _ (facts i) room xs us vs h) [ inl same ↦ same | inr starts ↦ absurd (apart_at x f apart us e starts) ]

    no_more : (i : I) (room : Room) (xs : List A) (us vs : List Token) → head_in kind x us ≡ true → Many (S i) room us xs vs → vs ≡ us
    no_more i room xs us vs e h = elim (many_starts L _ _ _ _ _ (facts i) room us xs vs h) [ inl starts ↦ absurd (apart_at x f apart us e starts.0) | inr none ↦ none.1 ]

    ext_first : (ts vs : List Token) → ts ≡ vs → head_in kind f ts ≡ true → head_in kind loop_ext vs ≡ true
    ext_first ts vs e h = subst (λ l. head_in kind loop_ext l ≡ true) e (head_or_left L f x ts h)

    ext_last : (us vs : List Token) → vs ≡ us → head_in kind x us ≡ true → head_in kind loop_ext vs ≡ true
    ext_last us vs e h = subst (λ l. head_in kind loop_ext l ≡ true) (sym e) (head_or_right L f x us h)

    module _ (here : I) where
      loop_over : (room : Room) (ts : List Token) → head_in kind f ts ≡ false → IsRead Loop LoopPrefix loop_ext (room, here) ts [] ts
      loop_over room ts over = record { derives = refl; ends = λ j vs h. ends j h.0 vs h.1; only = only }
        where
          no_value : (i : I) (t : A) (vs : List Token) → S i ts t vs → ⊥
          no_value i t vs h = elim ((facts i).starts ts t vs h) [ inl starts ↦ (let e = starts.0 in cc) | inr none ↦ (let e = none.0 in cc) ]

          ends : (j : Room × I) (xs : List A) (vs : List Token) → ManyPrefix (S j.1) (F j.1) j.0 xs ts vs → length ts ≤ length vs
          ends j [] vs (inl e) = omega (arith, ap length e)
          ends j [] vs (inr h) = elim ((facts j.1).begins ts vs h.1) [ inl e ↦ omega (arith, ap length e) | inr e ↦ (cc) ]
          ends j (y ∷ xs) vs h = absurd (no_value j.1 y h.1.0 h.1.1)

          only : (j : Room × I) (xs : List A) (vs : List Token) → Loop j ts xs vs → ((xs ≡ []) × (vs ≡ ts)) ⊎ (head_in kind loop_ext vs ≡ true)
          only j [] vs e = inl (refl, sym e)
          only j (y ∷ xs) vs h = absurd (no_value j.1 y h.1.0 h.1.1)

      loop_limited : (y : Token) (ms : List Token) → f (kind y) ≡ true → F (up here) (y ∷ ms) ms → IsLimited Loop LoopPrefix loop_ext (at_most 0, here) (at_most 1, up here) (y ∷ ms) (length (y ∷ ms))
      loop_limited y ms is leads = record {
        rest = y ∷ ms;
        count = refl;
        prefix = ([], inl refl);
        ends = λ vs h. ends h.0 vs h.1;
        more = (ms, refl, ([], inr (tt, leads)));
        only = only;
      }
        where
          ends : (xs : List A) (vs : List Token) → ManyPrefix (S here) (F here) (at_most 0) xs (y ∷ ms) vs → length (y ∷ ms) ≤ length vs
          ends [] vs (inl e) = omega (arith, ap length e)
          ends [] vs (inr h) = absurd h.0
          ends (z ∷ xs) vs h = absurd h.0

          only : (xs : List A) (vs : List Token) → Many (S here) (at_most 0) (y ∷ ms) xs vs → head_in kind loop_ext vs ≡ true
          only [] vs e = ext_first (y ∷ ms) vs e is
          only (z ∷ xs) vs h = absurd h.0

      -- the next value is not read
      module _ (ts : List Token) (begins : head_in kind f ts ≡ true) (n : ℕ) (i : I) (room : Room) where
        fail_ends : ((vs : List Token) → F i ts vs → n ≤ length vs) → ((t : A) (vs : List Token) → S i ts t vs → head_in kind x vs ≡ true)
            → (xs : List A) (vs : List Token) → ManyPrefix (S i) (F i) room xs ts vs → n ≤ length vs
        fail_ends ends only [] vs (inl e) = let l = ends ts ((facts i).none ts) in omega (arith, ap length e)
        fail_ends ends only [] vs (inr h) = ends vs h.1
        fail_ends ends only (y ∷ xs) vs h =
            let e = no_more_front i (one_less room) xs h.1.0 vs (only y h.1.0 h.1.1) h.1.2 in
            let l = ends h.1.0 ((facts i).whole ts y h.1.0 h.1.1) in omega (arith, ap length e)

        fail_only : ((t : A) (vs : List Token) → S i ts t vs → head_in kind x vs ≡ true) → (xs : List A) (vs : List Token) → Many (S i) room ts xs vs → head_in kind loop_ext vs ≡ true
        fail_only only [] vs e = ext_first ts vs e begins
        fail_only only (y ∷ xs) vs h = let e = only y h.1.0 h.1.1 in ext_last h.1.0 vs (no_more i (one_less room) xs h.1.0 vs e h.1.2) e

      -- the next value is read
      module _ (ts : List Token) (begins : head_in kind f ts ≡ true) (a : A) (us : List Token) (m : IsRead S F x here ts a us) (i : I) (room : Room) where
        goes_ends : (n : ℕ) → ((vs : List Token) → LoopPrefix (one_less room, i) us vs → n ≤ length vs) → (xs : List A) (vs : List Token) → ManyPrefix (S i) (F i) room xs ts vs → n ≤ length vs
        goes_ends n ends [] vs (inl e) =
            let l = m.ends i ts ((facts i).none ts) in
            let l' = ends us ([], inl refl) in omega (arith, ap length e)
        goes_ends n ends [] vs (inr h) =
            let l = m.ends i vs h.1 in
            let l' = ends us ([], inl refl) in omega arith
        goes_ends n ends (y ∷ xs) vs h = elim (m.only i y h.1.0 h.1.1) [
          | inl same ↦ ends vs (xs, subst (λ l. ManyPrefix (S i) (F i) (one_less room) xs l vs) same.1 h.1.2)
          | inr e ↦ (let q = no_more_front i (one_less room) xs h.1.0 vs e h.1.2 in
              let l = m.ends i h.1.0 ((facts i).whole ts y h.1.0 h.1.1) in
              let l' = ends us ([], inl refl) in omega (arith, ap length q))
        ]

        goes_only : ((xs : List A) (vs : List Token) → Many (S i) (one_less room) us xs vs → head_in kind loop_ext vs ≡ true) → (xs : List A) (vs : List Token) → Many (S i) room ts xs vs → head_in kind loop_ext vs ≡ true
        goes_only only [] vs e = ext_first ts vs e begins
        goes_only only (y ∷ xs) vs h = elim (m.only i y h.1.0 h.1.1) [
          | inl same ↦ only xs vs (subst (λ l. Many (S i) (one_less room) l xs vs) same.1 h.1.2)
          | inr e ↦ ext_last h.1.0 vs (no_more i (one_less room) xs h.1.0 vs e h.1.2) e
        ]

        goes_same : (bs : List A) (ws : List Token)
            → ((xs : List A) (vs : List Token) → Many (S i) (one_less room) us xs vs → ((xs ≡ bs) × (vs ≡ ws)) ⊎ (head_in kind loop_ext vs ≡ true))
            → (xs : List A) (vs : List Token) → Many (S i) room ts xs vs → ((xs ≡ a ∷ bs) × (vs ≡ ws)) ⊎ (head_in kind loop_ext vs ≡ true)
        goes_same bs ws only [] vs e = inr (ext_first ts vs e begins)
        goes_same bs ws only (y ∷ xs) vs h = elim (m.only i y h.1.0 h.1.1) [
          | inl same ↦ elim (only xs vs (subst (λ l. Many (S i) (one_less room) l xs vs) same.1 h.1.2)) [
            | inl q ↦ inl (let p = same.0 in let r = q.0 in (cc), q.1)
            | inr e ↦ inr e
          ]
          | inr e ↦ inr (ext_last h.1.0 vs (no_more i (one_less room) xs h.1.0 vs e h.1.2) e)
        ]

      more_has : (room : Room) → HasRoom room → HasRoom (more_room room)
      more_has any h = tt
      more_has (at_most n) h = tt

      more_less : (room : Room) → HasRoom room → more_room (one_less room) ≡ one_less (more_room room)
      more_less any h = refl
      more_less (at_most zero) h = absurd h
      more_less (at_most (suc n)) h = refl

      loop_goes : (ts : List Token) (begins : head_in kind f ts ≡ true) (room : Room) (has : HasRoom room) (a : A) (us : List Token) (m : IsRead S F x here ts a us)
          → (r : Outcome Token (List A)) → Meets Loop LoopPrefix loop_ext (one_less room, here) (more_room (one_less room), up here) us r
          → Meets Loop LoopPrefix loop_ext (room, here) (more_room room, up here) ts (r >>= λ xs. Ok (a ∷ xs.0, xs.1))
      loop_goes ts begins room has a us m (Ok p) m' = record {
        derives = (has, (us, m.derives, m'.derives));
        ends = λ j vs h. goes_ends ts begins a us m j.1 j.0 (length p.1) (m'.ends (one_less j.0, j.1)) h.0 vs h.1;
        only = λ j xs vs h. goes_same ts begins a us m j.1 j.0 p.0 p.1 (m'.only (one_less j.0, j.1)) xs vs h;
      }
      loop_goes ts begins room has a us m (Err (Syntax n)) m' = record {
        rest = m'.rest;
        count = m'.count;
        prefix = (a ∷ m'.prefix.0, (has, (us, m.derives, m'.prefix.1)));
        ends = λ j vs h. goes_ends ts begins a us m j.1 j.0 n (m'.ends (one_less j.0, j.1)) h.0 vs h.1;
        only = λ j xs vs h. goes_only ts begins a us m j.1 j.0 (m'.only (one_less j.0, j.1)) xs vs h;
      }
      loop_goes ts begins room has a us m (Err (Limit n)) m' = record {
        rest = m'.rest;
        count = m'.count;
        prefix = (a ∷ m'.prefix.0, (has, (us, m.derives, m'.prefix.1)));
        ends = λ vs h. goes_ends ts begins a us m here room n m'.ends h.0 vs h.1;
        more = (m'.more.0, m'.more.1, (a ∷ m'.more.2.0, (more_has room has, (us, (facts here).more ts a us m.derives, subst (λ l. ManyPrefix (S (up here)) (F (up here)) l m'.more.2.0 us m'.more.0) (more_less room has) m'.more.2.1))));
        only = λ xs vs h. goes_only ts begins a us m here room m'.only xs vs h;
      }

      loop_stops : (ts : List Token) (begins : head_in kind f ts ≡ true) (room : Room) (has : HasRoom room) (n : ℕ) → IsStopped S F x here ts n → IsStopped Loop LoopPrefix loop_ext (room, here) ts n
      loop_stops ts begins room has n m = record {
        rest = m.rest;
        count = m.count;
        prefix = ([], inr (has, m.prefix));
        ends = λ j vs h. fail_ends ts begins n j.1 j.0 (m.ends j.1) (m.only j.1) h.0 vs h.1;
        only = λ j xs vs h. fail_only ts begins n j.1 j.0 (m.only j.1) xs vs h;
      }

      loop_limits : (ts : List Token) (begins : head_in kind f ts ≡ true) (room : Room) (has : HasRoom room) (n : ℕ) → IsLimited S F x here (up here) ts n → IsLimited Loop LoopPrefix loop_ext (room, here) (more_room room, up here) ts n
      loop_limits ts begins room has n m = record {
        rest = m.rest;
        count = m.count;
        prefix = ([], inr (has, m.prefix));
        ends = λ vs h. fail_ends ts begins n here room m.ends m.only h.0 vs h.1;
        more = (m.more.0, m.more.1, ([], inr (more_has room has, m.more.2)));
        only = λ xs vs h. fail_only ts begins n here room m.only xs vs h;
      }

      module _ (lim : Bool) (next : List Token → Outcome Token A) (meets : (us : List Token) → Meets S F x here (up here) us (next us)) where
        abbrev pub LoopMeets : Room → ℕ → List Token → Type 0
        LoopMeets room n ts = Meets Loop LoopPrefix loop_ext (room, here) (more_room room, up here) ts (many_at kind lim next f n ts)

        has_room : (room : Room) (n : ℕ) (ts : List Token) → Counts room (suc n) ts → HasRoom room
        has_room any n ts h = tt
        has_room (at_most zero) n ts h = (cc)
        has_room (at_most (suc m)) n ts h = tt

        counts_less : (room : Room) (n : ℕ) (ts us : List Token) → Counts room (suc n) ts → length us < length ts → Counts (one_less room) n us
        counts_less any n ts us h l = omega arith
        counts_less (at_most zero) n ts us h l = (cc)
        counts_less (at_most (suc m)) n ts us h l = omega arith

        shorter : (ts : List Token) (a : A) (us : List Token) → S here ts a us → length us < length ts
        shorter ts a us h = elim ((facts here).starts ts a us h) [ inl starts ↦ starts.1 | inr none ↦ (let e = none.0 in cc) ]

        -- under a limit the first token of a value is a viable prefix of it by itself
        abbrev pub Leads : Room → Type 0
        Leads any = Unit {0}
        Leads (at_most m) = (lim ≡ true) × ((y : Token) (ms : List Token) → f (kind y) ≡ true → F (up here) (y ∷ ms) ms)

        leads_less : (room : Room) → Leads room → Leads (one_less room)
        leads_less any h = tt
        leads_less (at_most zero) h = h
        leads_less (at_most (suc m)) h = h

        at_zero : (l : Bool) (room : Room) (y : Token) (ms : List Token) → l ≡ lim → Leads room → Counts room 0 (y ∷ ms) → (b : Bool) → f (kind y) ≡ b
            → Meets Loop LoopPrefix loop_ext (room, here) (more_room room, up here) (y ∷ ms) (stop_at l b (y ∷ ms))
        at_zero l any y ms q leads h b is = absurd (omega arith)
        at_zero l (at_most (suc m)) y ms q leads h b is = (cc)
        at_zero true (at_most zero) y ms q leads h true is = loop_limited y ms is (leads.1 y ms is)
        at_zero true (at_most zero) y ms q leads h false is = loop_over (at_most zero) (y ∷ ms) is
        at_zero false (at_most zero) y ms q leads h b is = (let e = leads.0 in cc)

        pub loop_meets : (n : ℕ) (room : Room) (ts : List Token) → Leads room → Counts room n ts → LoopMeets room n ts
        unfolding many_at
        loop_meets zero room [] leads counts = go lim
          where
            go : (l : Bool) → Meets Loop LoopPrefix loop_ext (room, here) (more_room room, up here) [] (stop_at l false [])
            go true = loop_over room [] refl
            go false = loop_over room [] refl
        loop_meets zero room (y ∷ ms) leads counts = at_zero lim room y ms refl leads counts (f (kind y)) refl
        loop_meets (suc n) room ts leads counts = go (λ room us l c. loop_meets n room us l c) (head_in kind f ts) refl (next ts) (meets ts)
          where
            go : ((room : Room) (us : List Token) → Leads room → Counts room n us → LoopMeets room n us) → (b : Bool) → head_in kind f ts ≡ b → (r : Outcome Token A) → Meets S F x here (up here) ts r
                → Meets Loop LoopPrefix loop_ext (room, here) (more_room room, up here) ts (if b then (r >>= λ a. many_at kind lim next f n a.1 >>= λ xs. Ok (a.0 ∷ xs.0, xs.1)) else Ok ([], ts))
            go rec false e r m = loop_over room ts e
            go rec true e (Ok p) m = loop_goes ts e room (has_room room n ts counts) p.0 p.1 m (many_at kind lim next f n p.1) (rec (one_less room) p.1 (leads_less room leads) (counts_less room n ts p.1 counts (shorter ts p.0 p.1 m.derives)))
            go rec true e (Err (Syntax k)) m = loop_stops ts e room (has_room room n ts counts) k m
            go rec true e (Err (Limit k)) m = loop_limits ts e room (has_room room n ts counts) k m
