-- The steps of a list without a limit, from the state of the code on.
use Rattle.std.proofs.Common.{◌≡◌, ℕ, ◌-◌, ◌<◌, Bool, true, false, List, [], ◌∷◌, ◌++◌, length, map, Ok, Err, refl, sym, ◌∙◌, ap, append-nil}
use Rattle.row_grammar.specs.Grammar.{many}
use Rattle.row_grammar.specs.Decoder.{Outcome, head_in, many_at, first}
use Rattle.row_grammar.specs.declared.error.ReadError.{ReadError}
use Rattle.memory.specs.Gives.{IsFailure}
use Rattle.memory.specs.declared.failure.Failure.{Failure}
use Rattle.row_grammar.specs.Limits.{reads}
use Rattle.row_grammar.proofs.Steps.{ends, ends_alike, run_start, run_err, fault_along, list_stop, list_over, list_fail, list_go}
use Rattle.row_tokens.specs.declared.token.TokenKind.{TokenKind}
use Rattle.row_tokens.specs.Tokens.{Token}
use Rattle.row_reader.specs.Language.{Rule, language, kind_of, listed as a_list}
use Rattle.row_reader.specs.Expressions.{grammar, nested_first}

map_push : {X A : Type 0} (view : X → A) (all : List X) (x : X) (xs : List A) → map view (all ++ x ∷ []) ++ xs ≡ map view all ++ (view x ∷ xs)
map_push view [] x xs = refl
map_push view (y ∷ ys) x xs = ap (λ zs. view y ∷ zs) (map_push view ys x xs)

-- no list without its first item
pub listed_none : {A : Type 0} (w d : ℕ) (g h : Rule A) (ts : List Token) (s : Failure ReadError) → IsFailure s (reads grammar w d g ts) → IsFailure s (reads grammar w d (a_list g h) ts)
listed_none w d g h ts s q =
    fault_along s (reads grammar w d g ts) (reads grammar w d (a_list g h) ts)
    (λ stop r. run_err grammar w d (λ y ys. y ∷ ys) g false h ts stop r) q

ends_alone : {A : Type 0} (r : Outcome Token (List A)) → ends (λ xs. xs) r ≡ r
ends_alone (Ok p) = refl
ends_alone (Err stop) = refl

-- the items so far are seen by view; further ones are read by h, each started by a token of the kinds p
module _ {X A : Type 0} (w d : ℕ) (view : X → A) (h : Rule A) (p : TokenKind → Bool) where
  -- the items so far, and those that are still to come
  abbrev pub listed : List X → ℕ → List Token → Outcome Token (List A)
  listed all n us = ends (λ xs. map view all ++ xs) (many_at kind_of false (reads grammar w d h) p n us)

  module _ (due : Outcome Token (List A)) (all : List X) (n : ℕ) (us : List Token) (so_far : listed all n us ≡ due) where
    pub listed_stop : head_in kind_of p us ≡ false → due ≡ Ok (map view all, us)
    listed_stop e = sym so_far ∙ list_stop kind_of (λ xs. map view all ++ xs) (reads grammar w d h) p n us e ∙ ap (λ (xs : List A). let o : Outcome Token (List A) = Ok (xs, us) in o) (append-nil (map view all))

    pub listed_over : n ≡ 0 → due ≡ Ok (map view all, us)
    listed_over e = sym so_far ∙ list_over kind_of (λ xs. map view all ++ xs) (reads grammar w d h) p n us e ∙ ap (λ (xs : List A). let o : Outcome Token (List A) = Ok (xs, us) in o) (append-nil (map view all))

    pub listed_fail : (s : Failure ReadError) → 0 < n → head_in kind_of p us ≡ true → IsFailure s (reads grammar w d h us) → IsFailure s due
    listed_fail s l e q = fault_along s (reads grammar w d h us) due (λ stop r. sym so_far ∙ list_fail kind_of (λ xs. map view all ++ xs) (reads grammar w d h) p n us stop l e r) q

    pub listed_go : (x : X) (vs : List Token) (all' : List X) (m : ℕ) → 0 < n → head_in kind_of p us ≡ true → reads grammar w d h us ≡ Ok (view x, vs)
        → all' ≡ all ++ x ∷ [] → n - 1 ≡ m → listed all' m vs ≡ due
    listed_go x vs all' m l e q a j =
        rw (a, ← j)
        (ends_alike (λ xs. map view (all ++ x ∷ []) ++ xs) (λ xs. map view all ++ (view x ∷ xs)) (many_at kind_of false (reads grammar w d h) p (n - 1) vs) (map_push view all x)
        ∙ sym (list_go kind_of (λ xs. map view all ++ xs) (reads grammar w d h) p n us (view x) vs l e q) ∙ so_far)

  -- a first item, read by g
  pub listed_first : (g : Rule A) (ts : List Token) → first language nested_first h ≡ p → (x : X) (us : List Token) (n : ℕ) (none all : List X)
      → reads grammar w d g ts ≡ Ok (view x, us) → none ≡ [] → all ≡ none ++ x ∷ [] → n ≡ length us
      → listed all n us ≡ reads grammar w d (a_list g h) ts
  listed_first g ts begins x us n none all e z a j =
      rw (a, z, j, ← begins) (run_start grammar w d (λ y ys. y ∷ ys) g false h ts (view x) us e)

  -- no item yet
  pub listed_start : (ts us : List Token) (n : ℕ) (none : List X) → first language nested_first h ≡ p → none ≡ [] → us ≡ ts → n ≡ length ts
      → listed none n us ≡ reads grammar w d (many false h) ts
  listed_start ts us n none begins z t j =
      rw (z, t, j, ← begins) (ends_alone (reads grammar w d (many false h) ts))
