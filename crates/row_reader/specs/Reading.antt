-- The results of the functions of the parser, over tokens.
use Rattle.std.specs.Prelude.{◌≡◌, ℕ, List, Option, Some, Result, Ok, Err}
use denote.Ref.{Bor}
use Rattle.memory.specs.Gives.{Gives}
use Rattle.memory.specs.declared.failure.Failure.{Failure}
use Rattle.memory.specs.declared.failure.Failure.TheVariants.{OutOfMemory}
use Rattle.row_grammar.specs.Decoder.{◌>>=◌, Outcome, word_at}
use Rattle.row_grammar.specs.Limits.{reads}
use Rattle.row_grammar.specs.declared.error.ReadError.{ReadError}
use Rattle.row_tokens.specs.declared.token.Token.{Token as Lexed}
use Rattle.row_tokens.specs.declared.token.TokenKind.TheVariants as k
use Rattle.row_tokens.specs.View.{words_of}
use Rattle.row_tokens.specs.Tokens.{Token}
use Rattle.row_reader.specs.Expressions.{grammar}
use Rattle.row_reader.specs.Language.{Rule, kind_of, is}
use Rattle.row_reader.specs.declared.reader.Reader.{Reader}

-- the result of a parser of a rule: the tree, seen by view, and the tokens after it, or the error of reading, unless
-- memory ran out
abbrev pub Parses : {A X Y : Type 0} → (X → Y) → Rule Y → Reader A → List Lexed → Result (X × Bor (List Lexed)) (Failure ReadError) → Type 0
Parses view rule reader tokens result = Gives (λ x. (view x.0, words_of x.1.now)) result (reads grammar reader.run_limit reader.depth_limit rule (words_of tokens))

-- a value and the one read after it
abbrev pub paired : {A B C E : Type 0} → A → Result (B × C) E → Result ((A × B) × C) E
paired a (Ok x) = Ok ((a, x.0), x.1)
paired a (Err e) = Err e

-- a value that was made, and the tokens that are left
abbrev pub with_rest : {A B E F : Type 0} → Result A F → B → Result (A × B) (Failure E)
with_rest (Ok a) b = Ok (a, b)
with_rest (Err e) b = Err OutOfMemory

-- the same, with its offset
abbrev pub starting_at : {A B E F : Type 0} → ℕ → Result A F → B → Result ((ℕ × A) × B) (Failure E)
starting_at n (Ok a) b = Ok ((n, a), b)
starting_at n (Err e) b = Err OutOfMemory

-- a value that was read, where it may also be left out
abbrev pub wrapped : {A B E : Type 0} → Result (A × B) E → Result (Option A × B) E
wrapped (Ok x) = Ok (Some x.0, x.1)
wrapped (Err e) = Err e

-- a value that was read, without its offset
abbrev pub unplaced : {A B E : Type 0} → Result ((ℕ × A) × B) E → Result (A × B) E
unplaced (Ok x) = Ok (x.0.1, x.1)
unplaced (Err e) = Err e

-- a token that was read, and its value
abbrev pub worded_as : {A : Type 0} → A → Outcome Token Token → Outcome Token (Token × A)
worded_as a read = read >>= λ x. Ok ((x.0, a), x.1)

-- the value of a token, with its offset
abbrev pub placed_as : {A : Type 0} → A → Outcome Token Token → Outcome Token (ℕ × A)
placed_as a read = read >>= λ x. Ok ((x.0.at, a), x.1)

-- the value of a token
abbrev pub meant_as : {A : Type 0} → A → Outcome Token Token → Outcome Token A
meant_as a read = read >>= λ x. Ok (a, x.1)

-- a value that was read, and a closing parenthesis after it
abbrev pub Closed : {A : Type 0} → Result (A × Bor (List Lexed)) (Failure ReadError) → Result (A × Bor (List Lexed)) (Failure ReadError) → Type 0
Closed (Ok x) result = Gives (λ y. (y.0, words_of y.1.now)) result (meant_as x.0 (word_at kind_of (is k.Close) (words_of x.1.now)))
Closed (Err e) result = result ≡ Err e
