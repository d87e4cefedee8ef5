-- A grammar: the forms of its rules, with the tree that each makes.
use Rattle.std.specs.Prelude.{Bool, List}

-- the tokens and the names of rules that a grammar speaks of
pub record Language : Type 1 where
  -- the view of a token that the rules test
  pub Kind : Type 0
  pub Token : Type 0
  pub kind : Token → Kind
  -- the names of the rules that are a level deeper
  pub Inner : Type 0
  -- the tree of each of them
  pub Tree : Inner → Type 0

-- a form that makes a value of a type
pub data Form (L : Language) : Type 0 → Type 1 where
  -- a token of one of these kinds
  word : (L.Kind → Bool) → Form L L.Token
  -- no token
  nothing : {A : Type 0} → A → Form L A
  -- one form, then another
  both : {A B : Type 0} → Form L A → Form L B → Form L (A × B)
  -- one form or another
  either : {A : Type 0} → Form L A → Form L A → Form L A
  -- a form, and a function of its value
  made : {A B : Type 0} → (A → B) → Form L A → Form L B
  -- a form any number of times; or, under true, at most as often as the limit on runs
  many : {A : Type 0} → Bool → Form L A → Form L (List A)
  -- a token of one of these kinds, which opens a level, and a form inside it
  nest : {A : Type 0} → (L.Kind → Bool) → Form L A → Form L (L.Token × A)
  -- a rule one level deeper
  inner : (r : L.Inner) → Form L (L.Tree r)

-- the rules that are a level deeper
pub record Grammar (L : Language) : Type 1 where
  pub rule : (r : L.Inner) → Form L (L.Tree r)
  -- the kinds that each of them starts with, which reading goes by; no meaning hangs on them
  pub inner_first : L.Inner → L.Kind → Bool
