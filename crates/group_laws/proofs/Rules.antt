-- The rules whose values have, of the tokens that they pass over, the offsets of some in their order.
use Rattle.std.proofs.Common.{◌≡◌, ℕ, zero, suc, ◌⊎◌, inl, inr, Bool, List, [], ◌∷◌, ◌++◌, Option, Some, None, refl, sym, ap, ◌∙◌, subst}
use Rattle.std.specs.List.{flat_map}
use Rattle.std.proofs.lemmas.List.{append-nil}
use Rattle.row_grammar.specs.Grammar.{word, nothing, both, either, made, many, nest, inner}
use Rattle.row_grammar.specs.Meaning.{Reading, Room, Many, DerivesIn, one_less, room_of}
use Rattle.row_grammar.specs.Limits.{Deep, Derives, can_open}
use Rattle.row_tokens.specs.declared.token.TokenKind.{TokenKind}
use Rattle.row_tokens.specs.Tokens.{Token}
use Rattle.row_reader.specs.Language.{Located, Nested, Rule, language, maybe, after, inside, listed}
use Rattle.row_reader.specs.Expressions.{grammar, rule}
use Rattle.group_laws.proofs.Passed.{Passes, at_it, goes_on, over, stays}

-- over the first token
over_it : (ts : List Token) (t : Token) (us : List Token) → ts ≡ t ∷ us → Passes ts [] us
over_it ts t us e = subst (λ l. Passes l [] us) (sym e) (over t us)

-- ---- whatever a rule reads, it passes over

module _ (open_ : Bool) (deep : Nested → Reading Token Located) (width : ℕ) (deep_passes : (r : Nested) (ts : List Token) (t : Located) (us : List Token) → deep r ts t us → Passes ts [] us) where
  abbrev Reads : {A : Type 0} → Rule A → List Token → A → List Token → Type 0
  Reads f ts t us = DerivesIn language open_ deep width f ts t us

  abbrev PassesAll : {A : Type 0} → Rule A → Type 0
  PassesAll {A} f = (ts : List Token) (t : A) (us : List Token) → Reads f ts t us → Passes ts [] us

  many_pass : {A : Type 0} (f : Rule A) → PassesAll f → (room : Room) (ts : List Token) (xs : List A) (us : List Token) → Many (Reads f) room ts xs us → Passes ts [] us
  many_pass f h room ts [] us e = subst (Passes ts []) e (stays ts)
  many_pass f h room ts (x ∷ xs) us s = goes_on ts s.1.0 us [] [] (h ts x s.1.0 s.1.1) (many_pass f h (one_less room) s.1.0 xs us s.1.2)

  form_passes : {A : Type 0} (f : Rule A) → PassesAll f
  form_passes (word p) ts t us s = over_it ts t us s.0
  form_passes (nothing a) ts t us s = subst (Passes ts []) s.0 (stays ts)
  form_passes (both g h) ts t us s = goes_on ts s.0 us [] [] (form_passes g ts t.0 s.0 s.1) (form_passes h s.0 t.1 us s.2)
  form_passes (either g h) ts t us (inl s) = form_passes g ts t us s
  form_passes (either g h) ts t us (inr s) = form_passes h ts t us s
  form_passes (made f g) ts t us s = form_passes g ts s.0 us s.1
  form_passes (many lim g) ts t us s = many_pass g (form_passes g) (room_of lim width) ts t us s
  form_passes (nest p g) ts t us s = goes_on ts s.1.0 us [] [] (over_it ts t.0 s.1.0 s.1.1) (form_passes g s.1.0 t.1 us s.1.3)
  form_passes (inner r) ts t us s = deep_passes r ts t us s

deep_passes : (w d : ℕ) (r : Nested) (ts : List Token) (t : Located) (us : List Token) → Deep grammar w d r ts t us → Passes ts [] us
unfolding Deep
deep_passes w zero r ts t us s = absurd s
deep_passes w (suc d) r ts t us s = form_passes (can_open d) (Deep grammar w d) w (deep_passes w d) (rule r) ts t us s

-- ---- the offsets of values

module _ (w d : ℕ) where
  -- those of a value are, in order, offsets of the tokens that are read
  pub record HasOffsets {A : Type 0} (f : Rule A) (offsets : A → List ℕ) : Type 0 where
    pub passes : (ts : List Token) (t : A) (us : List Token) → Derives grammar w d f ts t us → Passes ts (offsets t) us

  -- a value without any
  pub of_none : {A : Type 0} {f : Rule A} → HasOffsets f (λ x. [])
  of_none {A} {f} = record { passes = form_passes (can_open d) (Deep grammar w d) w (deep_passes w d) f }

  -- a token with its own
  pub of_word : {p : TokenKind → Bool} → HasOffsets (word p) (λ t. t.at ∷ [])
  of_word = record { passes = λ ts t us s. subst (λ l. Passes l (t.at ∷ []) us) (sym s.0) (at_it t us) }

  pub of_nothing : {A : Type 0} {x : A} {offsets : A → List ℕ} → offsets x ≡ [] → HasOffsets (nothing x) offsets
  of_nothing {A} {x} {offsets} e = record { passes = λ ts t us s. subst (λ l. Passes ts l us) (sym (ap offsets s.1 ∙ e)) (subst (Passes ts []) s.0 (stays ts)) }

  pub of_both : {A B : Type 0} {g : Rule A} {h : Rule B} {a : A → List ℕ} {b : B → List ℕ} → HasOffsets g a → HasOffsets h b → HasOffsets (both g h) (λ p. a p.0 ++ b p.1)
  of_both {a = a} {b} x y = record { passes = λ ts t us s. goes_on ts s.0 us (a t.0) (b t.1) (x.passes ts t.0 s.0 s.1) (y.passes s.0 t.1 us s.2) }

  pub of_either : {A : Type 0} {g h : Rule A} {a : A → List ℕ} → HasOffsets g a → HasOffsets h a → HasOffsets (either g h) a
  of_either x y = record { passes = λ ts t us. elim [ inl s ↦ x.passes ts t us s | inr s ↦ y.passes ts t us s ] }

  pub of_made : {A B : Type 0} {f : A → B} {g : Rule A} {a : A → List ℕ} {b : B → List ℕ} → HasOffsets g a → ((x : A) → a x ≡ b (f x)) → HasOffsets (made f g) b
  of_made {b = b} x e = record { passes = λ ts t us s. subst (λ l. Passes ts l us) (e s.0 ∙ sym (ap b s.2)) (x.passes ts s.0 us s.1) }

  many_offsets : {A : Type 0} (f : Rule A) (a : A → List ℕ) → HasOffsets f a → (room : Room) (ts : List Token) (xs : List A) (us : List Token) → Many (Derives grammar w d f) room ts xs us → Passes ts (flat_map a xs) us
  many_offsets f a h room ts [] us e = subst (Passes ts []) e (stays ts)
  many_offsets f a h room ts (x ∷ xs) us s = goes_on ts s.1.0 us (a x) (flat_map a xs) (h.passes ts x s.1.0 s.1.1) (many_offsets f a h (one_less room) s.1.0 xs us s.1.2)

  pub of_many : {A : Type 0} {lim : Bool} {g : Rule A} {a : A → List ℕ} → HasOffsets g a → HasOffsets (many lim g) (flat_map a)
  of_many {A} {lim} {g} {a} x = record { passes = λ ts xs us s. many_offsets g a x (room_of lim w) ts xs us s }

  pub of_nest : {A : Type 0} {p : TokenKind → Bool} {g : Rule A} {a : A → List ℕ} → HasOffsets g a → HasOffsets (nest p g) (λ q. a q.1)
  of_nest {p = p} {a = a} x = record { passes = λ ts t us s. goes_on ts s.1.0 us [] (a t.1) (over_it ts t.0 s.1.0 s.1.1) (x.passes s.1.0 t.1 us s.1.3) }

  -- a value with none, or with those of its first part alone
  pub of_first : {A B : Type 0} {g : Rule A} {h : Rule B} {a : A → List ℕ} {b : A × B → List ℕ} → HasOffsets g a → ((p : A × B) → (b p ≡ []) ⊎ (b p ≡ a p.0)) → HasOffsets (both g h) b
  of_first {A} {B} {g} {h} {a} {b} x e = record { passes = λ ts t us s. go ts t us s (e t) }
    where
      go : (ts : List Token) (t : A × B) (us : List Token) → Derives grammar w d (both g h) ts t us → (b t ≡ []) ⊎ (b t ≡ a t.0) → Passes ts (b t) us
      go ts t us s (inl is) = subst (λ l. Passes ts l us) (sym is) ((of_none {f = both g h}).passes ts t us s)
      go ts t us s (inr is) = subst (λ l. Passes ts l us) (append-nil (a t.0) ∙ sym is) ((of_both {g = g} {h = h} x of_none).passes ts t us s)

  -- ---- shorthands

  pub of_maybe : {A : Type 0} {g : Rule A} {a : A → List ℕ} {b : Option A → List ℕ} → HasOffsets g a → ((x : A) → a x ≡ b (Some x)) → b None ≡ [] → HasOffsets (maybe g) b
  of_maybe x e n = of_either (of_made x e) (of_nothing n)

  pub of_after : {A : Type 0} {p : TokenKind → Bool} {g : Rule A} {a : A → List ℕ} → HasOffsets g a → HasOffsets (after p g) a
  of_after x = of_made (of_both of_none x) (λ q. refl)

  pub of_inside : {A : Type 0} {g : Rule A} {a : A → List ℕ} → HasOffsets g a → HasOffsets (inside g) a
  of_inside {a = a} x = of_made (of_nest (of_both x of_none)) (λ q. append-nil (a q.1.0))

  pub of_listed : {A : Type 0} {g h : Rule A} {a : A → List ℕ} → HasOffsets g a → HasOffsets h a → HasOffsets (listed g h) (flat_map a)
  of_listed x y = of_made (of_both x (of_many y)) (λ q. refl)
