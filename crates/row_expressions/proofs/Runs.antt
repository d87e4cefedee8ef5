-- The steps of a run of operands under the limit, from the state of the code on.
use Rattle.std.proofs.Common.{◌≡◌, ℕ, zero, suc, ◌-◌, ◌<◌, Bool, true, false, List, [], ◌∷◌, ◌++◌, length, map, Result, Ok, Err, refl, sym, ◌∙◌, ap, append-nil, append_assoc}
use Rattle.std.specs.Prelude.{if◌then◌else◌}
use Rattle.std.specs.List.{flat_map}
use Rattle.row_grammar.specs.Grammar.{word, both}
use Rattle.row_grammar.specs.Decoder.{Outcome, ◌>>=◌, head_in, many_at}
use Rattle.row_grammar.specs.declared.error.ReadError.{ReadError}
use Rattle.row_grammar.specs.declared.error.ReadError.TheVariants.{Syntax, Limit}
use Rattle.memory.specs.Gives.{IsFailure}
use Rattle.memory.specs.declared.failure.Failure.{Failure}
use Rattle.row_grammar.specs.Limits.{reads}
use Rattle.row_grammar.proofs.Steps.{ends, fault_along, ends_stop, ends_limit, ends_fail, ends_go, ends_alike}
use Rattle.row_tokens.specs.declared.token.TokenKind.{TokenKind}
use Rattle.row_tokens.specs.Tokens.{Token}
use Rattle.row_ast.specs.Ast.{Expr}
use Rattle.row_reader.specs.Language.{Rule, Located, kind_of, next_at}
use Rattle.row_reader.specs.Expressions.{grammar}

-- a function of the operands that are still to come, of which n may, each started by a token of the kinds p
module _ {B C : Type 0} (w d : ℕ) (h : Rule B) (p : TokenKind → Bool) where
  abbrev pub run_on : (List B → C) → ℕ → List Token → Outcome Token C
  run_on k n us = ends k (many_at kind_of true (reads grammar w d h) p n us)

  module _ (k : List B → C) (due : Outcome Token C) (n : ℕ) (us : List Token) (so_far : run_on k n us ≡ due) where
    pub run_stop : head_in kind_of p us ≡ false → due ≡ Ok (k [], us)
    run_stop e = sym so_far ∙ ends_stop kind_of k (reads grammar w d h) p n us e

    pub run_full : n ≡ 0 → head_in kind_of p us ≡ true → due ≡ Err (Limit (length us))
    run_full z e = sym so_far ∙ ends_limit kind_of k (reads grammar w d h) p n us z e

    pub run_fail : (s : Failure ReadError) → 0 < n → head_in kind_of p us ≡ true → IsFailure s (reads grammar w d h us) → IsFailure s due
    run_fail s l e q = fault_along s (reads grammar w d h us) due (λ stop r. sym so_far ∙ ends_fail kind_of k (reads grammar w d h) p n us stop l e r) q

    pub run_go : (x : B) (vs : List Token) (k' : List B → C) (m : ℕ) → 0 < n → head_in kind_of p us ≡ true → reads grammar w d h us ≡ Ok (x, vs)
        → ((xs : List B) → k (x ∷ xs) ≡ k' xs) → n - 1 ≡ m → run_on k' m vs ≡ due
    run_go x vs k' m l e q same j =
        rw (← j) (sym (ends_alike (λ xs. k (x ∷ xs)) k' (many_at kind_of true (reads grammar w d h) p (n - 1) vs) same)
        ∙ sym (ends_go kind_of k (reads grammar w d h) p n us x vs l e q) ∙ so_far)

  -- a further operand is read, so only the values of one or more operands count
  pub run_more : (k k' : List B → C) (n : ℕ) (us : List Token) → head_in kind_of p us ≡ true
      → ((x : B) (vs : List Token) (xs : List B) → reads grammar w d h us ≡ Ok (x, vs) → k (x ∷ xs) ≡ k' (x ∷ xs)) → run_on k n us ≡ run_on k' n us
  unfolding many_at
  run_more k k' zero us e same = rw e refl
  run_more k k' (suc n) us e same = rw e (go (reads grammar w d h us) refl)
    where
      next : (y : B) → ((xs : List B) → k (y ∷ xs) ≡ k' (y ∷ xs)) → (o : Outcome Token (List B)) → ends k (o >>= λ xs. Ok (y ∷ xs.0, xs.1)) ≡ ends k' (o >>= λ xs. Ok (y ∷ xs.0, xs.1))
      next y a (Ok q) = ap (λ (c : C). let o : Outcome Token C = Ok (c, q.1) in o) (a q.0)
      next y a (Err stop) = refl

      go : (o : Outcome Token B) → reads grammar w d h us ≡ o
          → ends k (o >>= λ y. many_at kind_of true (reads grammar w d h) p n y.1 >>= λ xs. Ok (y.0 ∷ xs.0, xs.1)) ≡ ends k' (o >>= λ y. many_at kind_of true (reads grammar w d h) p n y.1 >>= λ xs. Ok (y.0 ∷ xs.0, xs.1))
      go (Ok q) r = next q.0 (λ xs. same q.0 q.1 xs r) (many_at kind_of true (reads grammar w d h) p n q.1)
      go (Err stop) r = refl

-- ---- AND and OR: the offset of the first word, and the members so far

same_value : {A : Type 0} (a b : A) → ◌≡◌ {A = Result A ReadError} (Ok a) (Ok b) → a ≡ b
same_value a b e = cc

-- a word that is read is the next token
pub word_is_next : {B : Type 0} (w d : ℕ) (p : TokenKind → Bool) (g : Rule B) (us : List Token) (y : Token × B) (vs : List Token) → reads grammar w d (both (word p) g) us ≡ Ok (y, vs) → y.0.at ≡ next_at us
word_is_next w d p g [] y vs e = cc
word_is_next {B} w d p g (u ∷ us) y vs e = go (p (kind_of u)) e
  where
    inner : (o : Outcome Token B) → (◌>>=◌ {A = B × List Token} {B = (Token × B) × List Token} o (λ b. Ok ((u, b.0), b.1))) ≡ Ok (y, vs) → y.0.at ≡ u.at
    inner (Ok q) e = sym (ap (λ (z : (Token × B) × List Token). z.0.0.at) (same_value ((u, q.0), q.1) (y, vs) e))
    inner (Err stop) e = cc

    go : (b : Bool) → (◌>>=◌ {A = Token × List Token} {B = (Token × B) × List Token} (if b then Ok (u, us) else Err (Syntax (length (u ∷ us)))) (λ x. ◌>>=◌ {A = B × List Token} {B = (Token × B) × List Token} (reads grammar w d g x.1) (λ z. Ok ((x.0, z.0), z.1)))) ≡ Ok (y, vs) → y.0.at ≡ u.at
    go true e = inner (reads grammar w d g us) e
    go false e = cc

-- the expression of one or more members, and its offset
module _ (make : List Expr → Expr) (members : Expr → List Expr) where
  abbrev pub joined : ℕ → List Expr → List (Token × Located) → Located
  joined start ms ys = (start, make (ms ++ flat_map members (map (λ y. y.1.1) ys)))

  pub joined_go : (start : ℕ) (ms : List Expr) (y : Token × Located) (ys : List (Token × Located)) → joined start ms (y ∷ ys) ≡ joined start (ms ++ members y.1.1) ys
  joined_go start ms y ys = ap (λ l. (start, make l)) (sym (append_assoc ms (members y.1.1) (flat_map members (map (λ y. y.1.1) ys))))

  pub joined_end : (start : ℕ) (ms : List Expr) → joined start ms [] ≡ (start, make ms)
  joined_end start ms = ap (λ l. (start, make l)) (append-nil ms)
