-- What holds of the values of rules, where something holds of each token.
use Rattle.std.proofs.Common.{◌≡◌, ℕ, zero, suc, inl, inr, Bool, true, List, [], ◌∷◌, Option, Some, None, sym, subst}
use Rattle.row_grammar.specs.Grammar.{word, nothing, both, either, made, many, nest, inner}
use Rattle.row_grammar.specs.Meaning.{Reading, Room, Many, DerivesIn, one_less, room_of}
use Rattle.row_grammar.specs.Limits.{Deep, Derives, can_open}
use Rattle.row_tokens.specs.declared.token.TokenKind.{TokenKind}
use Rattle.row_tokens.specs.Tokens.{Token}
use Rattle.row_reader.specs.Language.{Located, Nested, Rule, language, maybe, after, inside, listed}
use Rattle.row_reader.specs.Expressions.{grammar, rule}

-- something holds of each element
abbrev pub Each : {A : Type 0} → (A → Type 0) → List A → Type 0
Each P [] = Unit {0}
Each P (x ∷ xs) = P x × Each P xs

-- something holds of one element at least, and of each
abbrev pub SomeEach : {A : Type 0} → (A → Type 0) → List A → Type 0
SomeEach P [] = ⊥
SomeEach P (x ∷ xs) = P x × Each P xs

-- something holds of a value, if it is there
abbrev pub If : {A : Type 0} → (A → Type 0) → Option A → Type 0
If P None = Unit {0}
If P (Some x) = P x

module _ (Good : Token → Type 0) where
  -- ---- each token that is left is good

  first_good : (ts : List Token) (t : Token) (us : List Token) → ts ≡ t ∷ us → Each Good ts → Good t
  first_good ts t us e h = (subst (Each Good) e h).0

  rest_good : (ts : List Token) (t : Token) (us : List Token) → ts ≡ t ∷ us → Each Good ts → Each Good us
  rest_good ts t us e h = (subst (Each Good) e h).1

  module _ (open_ : Bool) (deep : Nested → Reading Token Located) (width : ℕ) (deep_left : (r : Nested) (ts : List Token) (t : Located) (us : List Token) → deep r ts t us → Each Good ts → Each Good us) where
    abbrev Reads : {A : Type 0} → Rule A → List Token → A → List Token → Type 0
    Reads f ts t us = DerivesIn language open_ deep width f ts t us

    abbrev Leaves : {A : Type 0} → Rule A → Type 0
    Leaves {A} f = (ts : List Token) (t : A) (us : List Token) → Reads f ts t us → Each Good ts → Each Good us

    many_left : {A : Type 0} (f : Rule A) → Leaves f → (room : Room) (ts : List Token) (xs : List A) (us : List Token) → Many (Reads f) room ts xs us → Each Good ts → Each Good us
    many_left f h room ts [] us e g = subst (Each Good) e g
    many_left f h room ts (x ∷ xs) us s g = many_left f h (one_less room) s.1.0 xs us s.1.2 (h ts x s.1.0 s.1.1 g)

    form_left : {A : Type 0} (f : Rule A) → Leaves f
    form_left (word p) ts t us s g = rest_good ts t us s.0 g
    form_left (nothing a) ts t us s g = subst (Each Good) s.0 g
    form_left (both p q) ts t us s g = form_left q s.0 t.1 us s.2 (form_left p ts t.0 s.0 s.1 g)
    form_left (either p q) ts t us (inl s) g = form_left p ts t us s g
    form_left (either p q) ts t us (inr s) g = form_left q ts t us s g
    form_left (made f p) ts t us s g = form_left p ts s.0 us s.1 g
    form_left (many lim p) ts t us s g = many_left p (form_left p) (room_of lim width) ts t us s g
    form_left (nest k p) ts t us s g = form_left p s.1.0 t.1 us s.1.3 (rest_good ts t.0 s.1.0 s.1.1 g)
    form_left (inner r) ts t us s g = deep_left r ts t us s g

  deep_left : (w d : ℕ) (r : Nested) (ts : List Token) (t : Located) (us : List Token) → Deep grammar w d r ts t us → Each Good ts → Each Good us
  unfolding Deep
  deep_left w zero r ts t us s g = absurd s
  deep_left w (suc d) r ts t us s g = form_left (can_open d) (Deep grammar w d) w (deep_left w d) (rule r) ts t us s g

  -- ---- what holds of values

  module _ (w d : ℕ) where
    left : {A : Type 0} (f : Rule A) (ts : List Token) (t : A) (us : List Token) → Derives grammar w d f ts t us → Each Good ts → Each Good us
    left f ts t us s g = form_left (can_open d) (Deep grammar w d) w (deep_left w d) f ts t us s g

    -- it holds of each value that the rule derives
    pub record Makes {A : Type 0} (f : Rule A) (P : A → Type 0) : Type 0 where
      pub holds : (ts : List Token) (t : A) (us : List Token) → Derives grammar w d f ts t us → Each Good ts → P t

    -- nothing is said
    pub of_any : {A : Type 0} {f : Rule A} → Makes f (λ x. Unit {0})
    of_any = record { holds = λ ts t us s g. tt }

    -- a good token of these kinds
    pub of_word : {p : TokenKind → Bool} {P : Token → Type 0} → ((t : Token) → Good t → p t.kind ≡ true → P t) → Makes (word p) P
    of_word h = record { holds = λ ts t us s g. h t (first_good ts t us s.0 g) s.1 }

    pub of_nothing : {A : Type 0} {x : A} {P : A → Type 0} → P x → Makes (nothing x) P
    of_nothing {A} {x} {P} h = record { holds = λ ts t us s g. subst P (sym s.1) h }

    pub of_both : {A B : Type 0} {f : Rule A} {h : Rule B} {P : A → Type 0} {Q : B → Type 0} → Makes f P → Makes h Q → Makes (both f h) (λ p. P p.0 × Q p.1)
    of_both {f = f} x y = record { holds = λ ts t us s g. (x.holds ts t.0 s.0 s.1 g, y.holds s.0 t.1 us s.2 (left f ts t.0 s.0 s.1 g)) }

    -- of the second part alone
    pub of_second : {A B : Type 0} {f : Rule A} {h : Rule B} {Q : B → Type 0} → Makes h Q → Makes (both f h) (λ p. Q p.1)
    of_second {f = f} y = record { holds = λ ts t us s g. y.holds s.0 t.1 us s.2 (left f ts t.0 s.0 s.1 g) }

    pub of_either : {A : Type 0} {f h : Rule A} {P : A → Type 0} → Makes f P → Makes h P → Makes (either f h) P
    of_either {P = P} x y = record { holds = λ ts t us s g. elim s as (λ _. P t) [ inl a ↦ x.holds ts t us a g | inr a ↦ y.holds ts t us a g ] }

    pub of_made : {A B : Type 0} {f : A → B} {p : Rule A} {P : A → Type 0} {Q : B → Type 0} → Makes p P → ((x : A) → P x → Q (f x)) → Makes (made f p) Q
    of_made {Q = Q} x h = record { holds = λ ts t us s g. subst Q (sym s.2) (h s.0 (x.holds ts s.0 us s.1 g)) }

    many_hold : {A : Type 0} (f : Rule A) (P : A → Type 0) → Makes f P → (room : Room) (ts : List Token) (xs : List A) (us : List Token) → Many (Derives grammar w d f) room ts xs us → Each Good ts → Each P xs
    many_hold f P h room ts [] us s g = tt
    many_hold f P h room ts (x ∷ xs) us s g = (h.holds ts x s.1.0 s.1.1 g, many_hold f P h (one_less room) s.1.0 xs us s.1.2 (left f ts x s.1.0 s.1.1 g))

    pub of_many : {A : Type 0} {lim : Bool} {f : Rule A} {P : A → Type 0} → Makes f P → Makes (many lim f) (Each P)
    of_many {A} {lim} {f} {P} x = record { holds = λ ts xs us s g. many_hold f P x (room_of lim w) ts xs us s g }

    pub of_nest : {A : Type 0} {k : TokenKind → Bool} {f : Rule A} {P : A → Type 0} → Makes f P → Makes (nest k f) (λ q. P q.1)
    of_nest x = record { holds = λ ts t us s g. x.holds s.1.0 t.1 us s.1.3 (rest_good ts t.0 s.1.0 s.1.1 g) }

    -- ---- shorthands

    pub of_maybe : {A : Type 0} {f : Rule A} {P : A → Type 0} → Makes f P → Makes (maybe f) (If P)
    of_maybe {A} {f} {P} x = of_either (of_made {P = P} x (λ y h. h)) (of_nothing tt)

    pub of_after : {A : Type 0} {k : TokenKind → Bool} {f : Rule A} {P : A → Type 0} → Makes f P → Makes (after k f) P
    of_after x = of_made (of_second x) (λ q h. h)

    pub of_inside : {A : Type 0} {f : Rule A} {P : A → Type 0} → Makes f P → Makes (inside f) P
    of_inside x = of_made (of_nest (of_both x of_any)) (λ q h. h.0)

    pub of_listed : {A : Type 0} {f h : Rule A} {P : A → Type 0} → Makes f P → Makes h P → Makes (listed f h) (SomeEach P)
    of_listed x y = of_made (of_both x (of_many y)) (λ q h. h)
