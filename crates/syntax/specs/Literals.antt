-- The null mark is no literal of a text.
use Rattle.std.specs.Prelude.{◌≡◌, ℕ, List, All}
use Rattle.row_tokens.specs.declared.token.TokenKind.TheVariants.{Quoted}
use Rattle.row_tokens.specs.Tokens.{Token, quoted_value, words}
use Rattle.value.specs.Datum.{text}
use Rattle.value.specs.Texts.{IsNoNullMark}

-- the value of a string literal is not the null mark
abbrev pub HasNoNullMark : Token → Type 0
HasNoNullMark w = w.kind ≡ Quoted → IsNoNullMark (text (quoted_value w.bytes))

abbrev pub HaveNoNullMarks : Type 0
HaveNoNullMarks = (source : List ℕ) → All HasNoNullMark (words source)
