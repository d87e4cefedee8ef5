-- The steps of reading from a tree that was read.
use Rattle.std.specs.Prelude.{◌≡◌, ℕ, List, Result, Ok, Err}
use denote.Ref.{Bor}
use Rattle.memory.specs.Gives.{Gives}
use Rattle.memory.specs.declared.failure.Failure.{Failure}
use Rattle.row_ast.specs.Ast as ast
use Rattle.row_ast.specs.Ast.{Expr, Otherwise, arms_of}
use Rattle.row_grammar.specs.Decoder.{◌>>=◌, Outcome, word_at}
use Rattle.row_grammar.specs.Limits.{reads}
use Rattle.row_reader.specs.Expressions.{grammar, is_null, null_tested, type_name}
use Rattle.row_reader.specs.Language.{Located, after, is, kind_of, maybe}
use Rattle.row_grammar.specs.declared.error.ReadError.{ReadError}
use Rattle.row_tokens.specs.declared.token.Token.{Token as Lexed}
use Rattle.row_tokens.specs.declared.token.TokenKind.TheVariants as k
use Rattle.row_tokens.specs.View.{words_of}
use Rattle.row_tokens.specs.Tokens.{Token}

-- a result goes on from a tree that was read, by a step over it and the words after it; an error of reading stays
abbrev pub GoesOn : {T U X Y : Type 0} → (T → X) → (X → List Token → Outcome Token Y) → (U → Y) → Result (T × Bor (List Lexed)) (Failure ReadError) → Result (U × Bor (List Lexed)) (Failure ReadError) → Type 0
GoesOn view step view' (Ok x) result = Gives (λ y. (view' y.0, words_of y.1.now)) result (step (view x.0) (words_of x.1.now))
GoesOn view step view' (Err e) result = result ≡ Err e

-- IS NULL or IS NOT NULL after an operand, where it stands there
abbrev pub null_step : ℕ → ℕ → Located → List Token → Outcome Token Located
null_step w d x us = reads grammar w d (maybe is_null) us >>= λ y. Ok (null_tested x y.0, y.1)

-- AS, a type and a closing parenthesis after the operand of the CAST that starts there
abbrev pub cast_step : ℕ → ℕ → ℕ → Located → List Token → Outcome Token Located
cast_step w d at x us = reads grammar w d (after (is k.As) type_name) us >>= λ y. word_at kind_of (is k.Close) y.1 >>= λ z. Ok ((at, ast.Cast at y.0 x.1), z.1)

-- END after the arms, and the result of ELSE, of the CASE that starts there
abbrev pub case_step : ℕ → List (Expr × Expr) → Otherwise → List Token → Outcome Token Located
case_step at arms other us = word_at kind_of (is k.End) us >>= λ z. Ok ((at, ast.Case at (arms_of arms) other), z.1)
