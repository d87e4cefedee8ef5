-- The result of reading a whole text: the tree that the grammar derives, or the longest viable prefix.
use Rattle.std.proofs.Common.{◌≡◌, ℕ, suc, inl, inr, IfOk, IfErr, Bool, true, false, List, [], ◌∷◌, length, Option, Some, None, Result, Ok, Err, sym, ◌∙◌, ap, arith}
use Rattle.row_grammar.specs.Grammar.{Language, Form, Grammar}
use Rattle.row_grammar.specs.Decoder.{◌>>=◌, Outcome}
use Rattle.row_grammar.specs.declared.error.ReadError.{ReadError}
use Rattle.row_grammar.specs.declared.error.ReadError.TheVariants.{Syntax, Limit}
use Rattle.memory.specs.Gives.{IsFailure}
use Rattle.memory.specs.declared.failure.Failure.{Failure}
use Rattle.memory.specs.declared.failure.Failure.TheVariants.{Error, OutOfMemory}
use Rattle.row_grammar.specs.Limits.{Derives, reads, finish, whole_at, IsRefused}
use Rattle.row_grammar.proofs.Meets.{IsRead, Meets}
use Rattle.row_grammar.proofs.Check.{good, IsDecided}
use Rattle.row_grammar.proofs.Whole.{S, F, facts, ext_of, is_fine}

module _ {L : Language} (G : Grammar L) (kinds : List L.Kind) (inner_ext : L.Inner → L.Kind → Bool) (decided : IsDecided G kinds inner_ext)
    {A : Type 0} (f : Form L A) (decides : good L G.inner_first inner_ext kinds false f ≡ true) (w d : ℕ) (ts : List L.Token) where
  open L use {Token}

  abbrev Met : Outcome Token A → Type 0
  Met r = Meets L (S G kinds inner_ext decided f) (F G kinds inner_ext decided f) (ext_of G kinds inner_ext decided f) (w, d) (suc w, suc d) ts r

  abbrev Read : A → List Token → Type 0
  Read t us = IsRead L (S G kinds inner_ext decided f) (F G kinds inner_ext decided f) (ext_of G kinds inner_ext decided f) (w, d) ts t us

  abbrev after : Outcome Token A → Result A ReadError
  after r = r >>= λ y. finish G y.0 y.1

  met : Met (reads G w d f ts)
  met = is_fine G kinds inner_ext decided f decides w d ts

  found_at : (r : Outcome Token A) → Met r → (t : A) → after r ≡ Ok t → Derives G w d f ts t []
  found_at (Ok p) m t e = go p.1 m e
    where
      go : (us : List Token) → Read p.0 us → finish G p.0 us ≡ Ok t → Derives G w d f ts t []
      go [] m e = let q : p.0 ≡ t = cc in rw (← q) m.derives
      go (u ∷ us) m e = cc
  found_at (Err g) m t e = cc

  only_at : (r : Outcome Token A) → Met r → (t : A) → Derives G w d f ts t [] → after r ≡ Ok t
  only_at (Ok p) m t h = elim (m.only (w, d) t [] h) [ inl same ↦ go p.1 (sym same.1) (sym same.0) | inr e ↦ (cc) ]
    where
      go : (us : List Token) → us ≡ [] → p.0 ≡ t → finish G p.0 us ≡ Ok t
      go [] e q = ap Ok q
      go (u ∷ us) e q = cc
  only_at (Err (Syntax n)) m t h = let e = m.only (w, d) t [] h in cc
  only_at (Err (Limit n)) m t h = let e = m.only t [] h in cc

  refused_at : (r : Outcome Token A) → Met r → (g : ReadError) → after r ≡ Err g → IsRefused G w d f ts g
  refused_at (Ok p) m g e = go p.1 m e
    where
      go : (us : List Token) → Read p.0 us → finish G p.0 us ≡ Err g → IsRefused G w d f ts g
      go [] m e = cc
      go (u ∷ us) m e = last g (let q : Syntax (length (u ∷ us)) ≡ g = cc in q)
        where
          last : (g : ReadError) → Syntax (length (u ∷ us)) ≡ g → IsRefused G w d f ts g
          last (Syntax n) q = record {
            rest = u ∷ us;
            count = let q' : length (u ∷ us) ≡ n = cc in q';
            prefix = (facts G kinds inner_ext decided f (w, d)).whole ts p.0 (u ∷ us) m.derives;
            longest = λ w' d' vs h. (let q' : length (u ∷ us) ≡ n = cc in let l = m.ends (w', d') vs h in omega arith);
          }
          last (Limit n) q = cc
  refused_at (Err (Syntax n)) m g e = last g (let q : Syntax n ≡ g = cc in q)
    where
      last : (g : ReadError) → Syntax n ≡ g → IsRefused G w d f ts g
      last (Syntax k) q = let q' : n ≡ k = cc in record { rest = m.rest; count = m.count ∙ q'; prefix = m.prefix; longest = λ w' d' vs h. (let l = m.ends (w', d') vs h in omega arith) }
      last (Limit k) q = cc
  refused_at (Err (Limit n)) m g e = last g (let q : Limit n ≡ g = cc in q)
    where
      last : (g : ReadError) → Limit n ≡ g → IsRefused G w d f ts g
      last (Syntax k) q = cc
      last (Limit k) q = let q' : n ≡ k = cc in record {
        rest = m.rest;
        count = m.count ∙ q';
        prefix = m.prefix;
        longest = λ vs h. (let l = m.ends vs h in omega arith);
        goes_on = (suc w, suc d, m.more.0, omega arith, omega arith, m.more.2, m.more.1 ∙ q');
      }

  -- The grammar derives what is read, within the limits.
  pub found : (t : A) → whole_at G w d f ts ≡ Ok t → Derives G w d f ts t []
  unfolding whole_at
  found t e = found_at (reads G w d f ts) met t e

  -- A tree that the grammar derives is read.
  pub only : (t : A) → Derives G w d f ts t [] → whole_at G w d f ts ≡ Ok t
  unfolding whole_at
  only t h = only_at (reads G w d f ts) met t h

  -- A refusal is at the token after the longest viable prefix.
  pub refused : (stop : ReadError) → whole_at G w d f ts ≡ Err stop → IsRefused G w d f ts stop
  unfolding whole_at
  refused stop e = refused_at (reads G w d f ts) met stop e

  -- One text has at most one tree.
  pub one_tree : (t t' : A) → Derives G w d f ts t [] → Derives G w d f ts t' [] → t ≡ t'
  one_tree t t' h h' = let e = only t h in let e' = only t' h' in cc
