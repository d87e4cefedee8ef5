-- The offset of a statement in a schema text, and the diagnostics of one that is refused.
use Rattle.std.specs.Prelude.{ℕ, ◌-◌, ◌==◌, Bool, true, false, if◌then◌else◌, List, [], ◌∷◌, Option, Some, None, Result, Ok, Err}
use Rattle.value.specs.declared.refusal.Refusal.{Refusal}
use Rattle.row_tokens.specs.Tokens.{Token}
use Rattle.row_tokens.specs.Errors.{tokens_of}
use Rattle.row_tokens.specs.declared.error.TokenError.{TokenError}
use Rattle.row_tokens.specs.declared.token.TokenKind.{TokenKind}
use Rattle.row_tokens.specs.declared.token.TokenKind.TheVariants as k
use Rattle.replies.specs.Reply.{Refused}
use Rattle.diagnostics.specs.Diagnosis.{hint}

-- the end of a statement
abbrev pub is_semicolon : TokenKind → Bool
is_semicolon k.Semicolon = true
is_semicolon _ = false

-- the offset of the first token of the statement of a number among those that the tokens begin, from 1
abbrev pub offset_among : ℕ → List Token → Option ℕ
offset_among n [] = None
offset_among n (t ∷ ts) = if n == 1 then Some t.at else offset_among (if is_semicolon t.kind then n - 1 else n) ts

abbrev pub offset_in : ℕ → Result (List Token) TokenError → Option ℕ
offset_in n (Ok tokens) = offset_among n tokens
offset_in n (Err why) = None

-- the offset of the statement of a number, from 1, if the text has so many and is made of tokens
abbrev pub statement_offset : List ℕ → ℕ → Option ℕ
statement_offset text n = offset_in n (tokens_of text)

-- as those of a query that is refused at the offset
abbrev pub statement_hint : List ℕ → ℕ → Refusal → List ℕ
statement_hint text n code = hint text (Refused code (statement_offset text n))
