use Rattle.std.proofs.Common.{map, List, Result, Ok, Err}
use Rattle.std.proofs.lemmas.List.{map-id}
use denote.Ref.{Bor}
use Rattle.memory.specs.Gives.{Gives}
use Rattle.memory.specs.declared.failure.Failure.{Failure}
use Rattle.row_tokens.specs.declared.token.Token.{Token as Lexed}
use Rattle.row_tokens.specs.View.{words_of}
use Rattle.row_tokens.specs.Tokens.{Token}
use Rattle.row_reader.specs.Expressions.{names}
use Rattle.row_reader.proofs.names.names.Goals as goal

-- names are seen as they are
as_they_are : {A E : Type 0} (result : Result (List A × Bor (List Lexed)) (Failure E)) → (stated : Result (List A × List Token) E) → Gives (λ x. (map (λ n. n) x.0, words_of x.1.now)) result stated → Gives (λ x. (x.0, words_of x.1.now)) result stated
as_they_are (Ok x) stated h = rw (← map-id x.0) h
as_they_are (Err e) stated h = h

pub returns : goal.returns
unfolding names
returns g c = as_they_are c.comma_list.result _ c.comma_list.ensures
