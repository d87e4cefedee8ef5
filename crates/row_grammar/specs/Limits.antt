-- A grammar within limits: the depth of its rules, and the length of a run.
use Rattle.std.specs.Prelude.{◌≡◌, ◌≤◌, ℕ, zero, suc, Bool, true, false, List, [], ◌∷◌, length, Result, Ok, Err, Option, Some, None}
use Rattle.row_grammar.specs.Grammar.{Language, Form, Grammar}
use Rattle.row_grammar.specs.Meaning.{Reading, Prefixing, DerivesIn, PrefixIn}
use Rattle.row_grammar.specs.Decoder.{◌>>=◌, Outcome, run}
use Rattle.row_grammar.specs.declared.error.ReadError.{ReadError}
use Rattle.row_grammar.specs.declared.error.ReadError.TheVariants.{Syntax, Limit}

-- a level may be opened where depth more are allowed
abbrev pub can_open : ℕ → Bool
can_open zero = false
can_open (suc depth) = true

module _ {L : Language} (G : Grammar L) where
  open L use {Token, Inner, Tree}
  open G use {rule, inner_first}

  -- ---- meaning

  -- a rule that is a level deeper
  unfoldable pub Deep : ℕ → ℕ → (r : Inner) → Reading Token (Tree r)
  Deep width zero r ts t us = ⊥
  Deep width (suc depth) r ts t us = DerivesIn L (can_open depth) (Deep width depth) width (rule r) ts t us

  -- a viable prefix of such a rule
  unfoldable pub DeepPrefix : ℕ → ℕ → Inner → Prefixing Token
  DeepPrefix width zero r ts us = us ≡ ts
  DeepPrefix width (suc depth) r ts us = PrefixIn L (can_open depth) (Deep width depth) width (DeepPrefix width depth) (rule r) ts us

  -- The grammar derives the first of the tokens ts, up to us, with the value, nested at most depth deep, with at most
  -- width further values in a run under the limit.
  abbrev pub Derives : ℕ → ℕ → {A : Type 0} → Form L A → Reading Token A
  Derives width depth f ts t us = DerivesIn L (can_open depth) (Deep width depth) width f ts t us

  -- The first of the tokens ts, up to us, are a viable prefix of the form, within the same limits.
  abbrev pub ViablePrefix : ℕ → ℕ → {A : Type 0} → Form L A → Prefixing Token
  ViablePrefix width depth f ts us = PrefixIn L (can_open depth) (Deep width depth) width (DeepPrefix width depth) f ts us

  -- ---- reading

  -- such a rule, read
  unfoldable pub deep_at : ℕ → ℕ → (r : Inner) → List Token → Outcome Token (Tree r)
  deep_at width zero r ts = Err (Limit (length ts))
  deep_at width (suc depth) r ts = run L inner_first width (can_open depth) (deep_at width depth) (rule r) ts

  -- The reading of a form by one token ahead, with at most depth levels and runs of at most width.
  abbrev pub reads : ℕ → ℕ → {A : Type 0} → Form L A → List Token → Outcome Token A
  reads width depth f ts = run L inner_first width (can_open depth) (deep_at width depth) f ts

  -- ---- the whole text

  -- no token is left over
  abbrev pub finish : {A : Type 0} → A → List Token → Result A ReadError
  finish x [] = Ok x
  finish x (t ∷ ts) = Err (Syntax (length (t ∷ ts)))

  -- the form, read from the whole text
  unfoldable pub whole_at : ℕ → ℕ → {A : Type 0} → Form L A → List Token → Result A ReadError
  whole_at width depth f ts = do
    x ← reads width depth f ts
    finish x.0 x.1

  module _ (width depth : ℕ) {A : Type 0} (f : Form L A) (ts : List L.Token) (n : ℕ) where
    -- No viable prefix of the form goes further than the nth token from the end, under any limits.
    pub record IsLongest : Type 0 where
      -- the tokens after the viable prefix
      pub rest : List Token
      pub count : length rest ≡ n
      pub prefix : ViablePrefix width depth f ts rest
      pub longest : (width' depth' : ℕ) (vs : List Token) → ViablePrefix width' depth' f ts vs → n ≤ length vs

    -- No viable prefix within the limits goes further than the nth token from the end, but one within wider limits
    -- does.
    pub record IsPassed : Type 0 where
      -- the tokens after the viable prefix
      pub rest : List Token
      pub count : length rest ≡ n
      pub prefix : ViablePrefix width depth f ts rest
      pub longest : (vs : List Token) → ViablePrefix width depth f ts vs → n ≤ length vs
      -- within some wider limits it goes on by one token
      pub goes_on : (width' depth' : ℕ) × (vs : List Token) × (width ≤ width') × (depth ≤ depth') × ViablePrefix width' depth' f ts vs × (suc (length vs) ≡ n)

  -- The meaning of a refusal, by its error.
  abbrev pub IsRefused : ℕ → ℕ → {A : Type 0} → Form L A → List Token → ReadError → Type 0
  IsRefused width depth f ts (Syntax n) = IsLongest width depth f ts n
  IsRefused width depth f ts (Limit n) = IsPassed width depth f ts n
