-- The tokens of a text, or the error of one that has none.
use Rattle.std.specs.Prelude.{◌^◌, ℕ, nat_lt, if◌then◌else◌, List, length, Result, Ok, Err}
use Rattle.row_tokens.specs.declared.error.TokenError.{TokenError}
use Rattle.row_tokens.specs.declared.error.TokenError.TheVariants.{Bad, TooLong}
use Rattle.row_tokens.specs.Tokens.{Token, tokens_at}

-- the first bad token is reported by its offset
abbrev pub or_bad : Result (List Token) ℕ → Result (List Token) TokenError
or_bad (Ok words) = Ok words
or_bad (Err at) = Err (Bad at)

-- the tokens of a text whose offsets fit in 32 bits
abbrev pub tokens_of : List ℕ → Result (List Token) TokenError
tokens_of text = if nat_lt (length text) (2 ^ 32) then or_bad (tokens_at text) else Err TooLong
