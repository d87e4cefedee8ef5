-- A word and a name, and the tokens after them.
use Rattle.std.proofs.Common.{◌≡◌, ℕ, Bool, List, Result, Ok, Err, refl}
use Rattle.std.specs.Prelude.{IsErrAnd}
use denote.Ref.{Bor}
use Rattle.row_grammar.specs.Grammar.{both, made}
use Rattle.row_grammar.specs.Decoder.{Outcome, ◌>>=◌, word_at}
use Rattle.row_grammar.specs.Limits.{reads}
use Rattle.row_grammar.specs.declared.error.ReadError.{ReadError}
use Rattle.memory.specs.Gives.{Gives, IsFailure}
use Rattle.memory.specs.declared.failure.Failure.{Failure}
use Rattle.memory.specs.declared.failure.Failure.TheVariants.{Error, OutOfMemory}
use Rattle.row_tokens.specs.declared.token.TokenKind.{TokenKind}
use Rattle.row_tokens.specs.declared.token.Token.{Token as Lexed}
use Rattle.row_tokens.specs.View.{words_of}
use Rattle.row_tokens.specs.Tokens.{Token}
use Rattle.row_reader.specs.Language.{Rule, after, kind_of}
use Rattle.row_reader.specs.Expressions.{grammar}
use Rattle.row_reader.specs.Reading.{paired}

abbrev then_both : {A B : Type 0} → Outcome Token A → (List Token → Outcome Token B) → Outcome Token (A × B)
then_both o r = o >>= λ x. r x.1 >>= λ y. Ok ((x.0, y.0), y.1)

abbrev second : {A B : Type 0} → Outcome Token (A × B) → Outcome Token B
second o = o >>= λ x. Ok (x.0.1, x.1)

abbrev pub with_first : {A B : Type 0} → A → Outcome Token B → Outcome Token (A × B)
with_first a o = o >>= λ y. Ok ((a, y.0), y.1)

last_step : {A B : Type 0} (u : Token) (a : A) (o : Outcome Token B) → second (with_first u (with_first a o)) ≡ with_first a o
last_step u a (Ok y) = refl
last_step u a (Err e) = refl

name_step : {A B : Type 0} (u : Token) (o : Outcome Token A) (r : List Token → Outcome Token B) → second (with_first u (then_both o r)) ≡ then_both (second (with_first u o)) r
name_step u (Ok x) r = last_step u x.0 (r x.1)
name_step u (Err e) r = refl

word_step : {A B : Type 0} (o : Outcome Token Token) (n : List Token → Outcome Token A) (r : List Token → Outcome Token B) → second (then_both o (λ us. then_both (n us) r)) ≡ then_both (second (then_both o n)) r
word_step (Ok x) n r = name_step x.0 (n x.1) r
word_step (Err e) n r = refl

-- a step that fails
fails_first : {A B : Type 0} (f : Failure ReadError) (o : Outcome Token A) (r : List Token → Outcome Token B) → IsFailure f o → IsFailure f (then_both o r)
fails_first OutOfMemory o r fails = tt
fails_first (Error e) o r fails = rw fails refl

exit_gives : {X Y : Type 0} (view : X → Y) (r : Result X (Failure ReadError)) (f : Failure ReadError) (m : Result Y ReadError) → IsErrAnd r (λ e. e ≡ f) → IsFailure f m → Gives view r m
exit_gives view (Ok x) f m is fails = absurd is
exit_gives view (Err e) f m is fails = rw is fails

-- a value before the one that was read
paired_gives : {X Y A B : Type 0} (va : X → A) (vb : Y → B) (x : X) (next : Result (Y × Bor (List Lexed)) (Failure ReadError)) (r : Result ((X × Y) × Bor (List Lexed)) (Failure ReadError)) (o : Outcome Token B) → r ≡ paired x next
    → Gives (λ y. (vb y.0, words_of y.1.now)) next o → Gives (λ z. ((va z.0.0, vb z.0.1), words_of z.1.now)) r (with_first (va x) o)
paired_gives va vb x (Ok y) r o is gives = rw (is, gives) refl
paired_gives va vb x (Err OutOfMemory) r o is gives = rw is tt
paired_gives va vb x (Err (Error e)) r o is gives = rw (is, gives) refl

module _ {A B : Type 0} (w d : ℕ) (p : TokenKind → Bool) (g : Rule A) (h : Rule B) (ts : List Token) where
  same_steps : reads grammar w d (after p (both g h)) ts ≡ then_both (reads grammar w d (after p g) ts) (λ us. reads grammar w d h us)
  same_steps = word_step (word_at kind_of p ts) (λ us. reads grammar w d g us) (λ us. reads grammar w d h us)

  -- the word or the name is not there
  none_named : (f : Failure ReadError) → IsFailure f (reads grammar w d (after p g) ts) → IsFailure f (reads grammar w d (after p (both g h)) ts)
  none_named f fails = rw same_steps (fails_first f (reads grammar w d (after p g) ts) (λ us. reads grammar w d h us) fails)

  made_fails : {C : Type 0} (k : A × B → C) (f : Failure ReadError) → IsFailure f (reads grammar w d (after p (both g h)) ts) → IsFailure f (reads grammar w d (made k (after p (both g h))) ts)
  made_fails k OutOfMemory fails = tt
  made_fails k (Error e) fails = rw fails refl

  pub exit_named : {Z : Type 0} (view : Z → (A × B) × List Token) (f : Failure ReadError) (r : Result Z (Failure ReadError)) → IsErrAnd r (λ e. e ≡ f) → IsFailure f (reads grammar w d (after p g) ts)
      → Gives view r (reads grammar w d (after p (both g h)) ts)
  exit_named view f r is fails = exit_gives view r f (reads grammar w d (after p (both g h)) ts) is (none_named f fails)

  -- the same where something is made of them
  pub exit_made : {C Z : Type 0} (k : A × B → C) (view : Z → C × List Token) (f : Failure ReadError) (r : Result Z (Failure ReadError)) → IsErrAnd r (λ e. e ≡ f) → IsFailure f (reads grammar w d (after p g) ts)
      → Gives view r (reads grammar w d (made k (after p (both g h))) ts)
  exit_made k view f r is fails = exit_gives view r f (reads grammar w d (made k (after p (both g h))) ts) is (made_fails k f (none_named f fails))

-- the part after the name; the parts are seen by views
module _ {X Y A B : Type 0} (va : X → A) (vb : Y → B) (w d : ℕ) (p : TokenKind → Bool) (g : Rule A) (h : Rule B) (tokens : List Lexed) (x : X) (rest : List Lexed) (next : Result (Y × Bor (List Lexed)) (Failure ReadError))
    (named : reads grammar w d (after p g) (words_of tokens) ≡ Ok (va x, words_of rest)) (gives : Gives (λ y. (vb y.0, words_of y.1.now)) next (reads grammar w d h (words_of rest))) where
  pub after_name : (r : Result ((X × Y) × Bor (List Lexed)) (Failure ReadError)) → r ≡ paired x next → Gives (λ z. ((va z.0.0, vb z.0.1), words_of z.1.now)) r (reads grammar w d (after p (both g h)) (words_of tokens))
  after_name r is = rw (same_steps w d p g h (words_of tokens), named) (paired_gives va vb x next r (reads grammar w d h (words_of rest)) is gives)

  module _ {C : Type 0} (k : A × B → C) where
    pub made_stops : {Z : Type 0} (view : Z → C × List Token) (f : Failure ReadError) (r : Result Z (Failure ReadError)) → IsErrAnd r (λ e. e ≡ f) → Err f ≡ paired x next → Gives view r (reads grammar w d (made k (after p (both g h))) (words_of tokens))
    made_stops view f r is same = exit_gives view r f (reads grammar w d (made k (after p (both g h))) (words_of tokens)) is (made_fails w d p g h (words_of tokens) k f (after_name (Err f) same))

    pub made_gives : (z : X) (y : Y) (left : Bor (List Lexed)) (t : C) → Ok ((z, y), left) ≡ paired x next → t ≡ k (va z, vb y) → reads grammar w d (made k (after p (both g h))) (words_of tokens) ≡ Ok (t, words_of left.now)
    made_gives z y left t same is = rw (after_name (Ok ((z, y), left)) same, is) refl
