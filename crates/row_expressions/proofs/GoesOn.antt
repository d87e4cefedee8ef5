-- A function that goes on from a tree that was read gives the result of its rule and then the step.
use Rattle.std.proofs.Common.{List, Result, Ok, Err, refl}
use denote.Ref.{Bor}
use Rattle.memory.specs.Gives.{Gives}
use Rattle.memory.specs.declared.failure.Failure.{Failure}
use Rattle.memory.specs.declared.failure.Failure.TheVariants.{Error, OutOfMemory}
use Rattle.row_grammar.specs.Decoder.{◌>>=◌, Outcome}
use Rattle.row_grammar.specs.declared.error.ReadError.{ReadError}
use Rattle.row_tokens.specs.declared.token.Token.{Token as Lexed}
use Rattle.row_tokens.specs.View.{words_of}
use Rattle.row_tokens.specs.Tokens.{Token}
use Rattle.row_expressions.specs.GoesOn.{GoesOn}

pub goes_on : {T U X Y : Type 0} (view : T → X) (step : X → List Token → Outcome Token Y) (view' : U → Y) (read : Result (T × Bor (List Lexed)) (Failure ReadError)) (result : Result (U × Bor (List Lexed)) (Failure ReadError)) (due : Outcome Token X)
    → GoesOn view step view' read result → Gives (λ x. (view x.0, words_of x.1.now)) read due → Gives (λ y. (view' y.0, words_of y.1.now)) result (due >>= λ x. step x.0 x.1)
goes_on view step view' (Ok x) result due g r = rw r g
goes_on view step view' (Err (Error e)) result due g r = rw (g, r) refl
goes_on view step view' (Err OutOfMemory) result due g r = rw g tt
