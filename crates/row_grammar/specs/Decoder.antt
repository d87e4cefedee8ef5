-- Reading from left to right by one token ahead, up to the first error.
use Rattle.std.specs.Prelude.{◌≡◌, ℕ, zero, suc, Bool, true, false, ◌&&◌, ◌||◌, List, [], ◌∷◌, length, Option, Some, None, Result, Ok, Err, if◌then◌else◌}
use Rattle.row_grammar.specs.declared.error.ReadError.{ReadError}
use Rattle.row_grammar.specs.declared.error.ReadError.TheVariants.{Syntax, Limit}
use Rattle.row_grammar.specs.Grammar.{Language, Form, word, nothing, both, either, made, many, nest, inner}

infixl 10 ◌>>=◌
-- one step, then another with its value; the first error ends both
abbrev pub ◌>>=◌ : {A B : Type 0} → Result A ReadError → (A → Result B ReadError) → Result B ReadError
(Ok x) >>= f = f x
(Err e) >>= f = Err e

-- a value and the tokens after it, or the first error
abbrev pub Outcome : Type 0 → Type 0 → Type 0
Outcome T A = Result (A × List T) ReadError

-- the end of a run: under a limit one more value passes it
abbrev pub stop_at : {T A : Type 0} → Bool → Bool → List T → Outcome T (List A)
stop_at false b ts = Ok ([], ts)
stop_at true b ts = if b then Err (Limit (length ts)) else Ok ([], ts)

module _ {K T : Type 0} (kind : T → K) where
  -- the next token is of one of these kinds
  abbrev pub head_in : (K → Bool) → List T → Bool
  head_in p [] = false
  head_in p (t ∷ ts) = p (kind t)

  -- a token of one of these kinds
  abbrev pub word_at : (K → Bool) → List T → Outcome T T
  word_at p [] = Err (Syntax 0)
  word_at p (t ∷ ts) = if p (kind t) then Ok (t, ts) else Err (Syntax (length (t ∷ ts)))

  -- a token that opens a level, where one may be opened
  abbrev pub opened_at : Bool → (K → Bool) → List T → Outcome T T
  opened_at o p [] = Err (Syntax 0)
  opened_at o p (t ∷ ts) = if p (kind t) then (if o then Ok (t, ts) else Err (Limit (length (t ∷ ts)))) else Err (Syntax (length (t ∷ ts)))

  -- values as long as the next token starts one, at most n
  unfoldable pub many_at : {A : Type 0} → Bool → (List T → Outcome T A) → (K → Bool) → ℕ → List T → Outcome T (List A)
  many_at lim r p zero ts = stop_at lim (head_in p ts) ts
  many_at lim r p (suc n) ts = if head_in p ts then (do
    x ← r ts
    xs ← many_at lim r p n x.1
    Ok (x.0 ∷ xs.0, xs.1)) else Ok ([], ts)

-- a form that may derive no token
abbrev pub nullable : {L : Language} {A : Type 0} → Form L A → Bool
nullable (word p) = false
nullable (nothing a) = true
nullable (both g h) = nullable g && nullable h
nullable (either g h) = nullable g || nullable h
nullable (made f g) = nullable g
nullable (many lim g) = true
nullable (nest p g) = false
nullable (inner r) = false

module _ (L : Language) (inner_first : L.Inner → L.Kind → Bool) where
  open L use {Kind, Token, kind}

  -- the kinds that a form starts with
  abbrev pub first : {A : Type 0} → Form L A → Kind → Bool
  first (word p) k = p k
  first (nothing a) k = false
  first (both g h) k = (nullable g && first h k) || first g k
  first (either g h) k = first g k || first h k
  first (made f g) k = first g k
  first (many lim g) k = first g k
  first (nest p g) k = p k
  first (inner r) k = inner_first r k

  module _ (width : ℕ) (open_ : Bool) (deep : (r : L.Inner) → List L.Token → Outcome L.Token (L.Tree r)) where
    -- a form is read by its first tokens: of two forms the first where the next token starts it
    abbrev pub run : {A : Type 0} → Form L A → List Token → Outcome Token A
    run (word p) ts = word_at kind p ts
    run (nothing a) ts = Ok (a, ts)
    run (both g h) ts = do
      x ← run g ts
      y ← run h x.1
      Ok ((x.0, y.0), y.1)
    run (either g h) ts = if head_in kind (first g) ts then run g ts else run h ts
    run (made f g) ts = do
      x ← run g ts
      Ok (f x.0, x.1)
    run (many lim g) ts = many_at kind lim (run g) (first g) (if lim then width else length ts) ts
    run (nest p g) ts = do
      x ← opened_at kind open_ p ts
      y ← run g x.1
      Ok ((x.0, y.0), y.1)
    run (inner r) ts = deep r ts
