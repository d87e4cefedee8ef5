-- The tokens of a text, by recursion over its bytes.
use Rattle.std.specs.Prelude.{ℕ, zero, suc, ◌+◌, ◌-◌, ◌^◌, ◌==◌, nat_lt, Bool, true, false, ◌&&◌, ◌||◌, if◌then◌else◌, List, [], ◌∷◌, ◌++◌, length, map, flat_map, drop, take, slice_index, Option, Some, None, Result, Ok, Err, codes}
use Rattle.std.specs.Char.{is_ascii_alphabetic, is_ascii_digit, to_ascii_lowercase}
use Rattle.std.specs.List.{prefix_len, take_while}
use Rattle.std.specs.Str.{bytes_eq, str_eq_ignore_ascii_case}
use Rattle.std.specs.Str.Parse.{digits_value}
use Rattle.row_tokens.specs.declared.token.TokenKind.{TokenKind}
use Rattle.row_tokens.specs.declared.token.TokenKind.TheVariants as k
use Rattle.row_tokens.specs.declared.lexeme.Lexeme.{Lexeme}

-- a token as spec data
pub record Token : Type 0 where
  pub kind : TokenKind
  -- its bytes of the source
  pub bytes : List ℕ
  -- of a number its value, else 0
  pub number : ℕ
  -- its offset
  pub at : ℕ

-- ---- bytes

-- space, tab, CR and LF
abbrev pub is_space : ℕ → Bool
is_space b = (b == 32) || (b == 9) || (b == 13) || (b == 10)

-- an ASCII letter or an underscore
abbrev pub is_letter : ℕ → Bool
is_letter b = is_ascii_alphabetic b || (b == 95)

-- a byte that may be in a word after its first letter
abbrev pub goes_on : ℕ → Bool
goes_on b = is_letter b || is_ascii_digit b

-- the first byte passes a test
abbrev pub starts : (ℕ → Bool) → List ℕ → Bool
starts p [] = false
starts p (b ∷ bs) = p b

-- ---- words

-- a word in lower case: each ASCII letter, and any other byte as it is
abbrev pub folded : List ℕ → List ℕ
folded word = map to_ascii_lowercase word

-- the words that are no names; of the last thirteen no rule has any
abbrev pub reserved : List (List ℕ × TokenKind)
reserved =
    (codes "all", k.All) ∷ (codes "and", k.And) ∷ (codes "asc", k.Asc) ∷ (codes "as", k.As) ∷ (codes "between", k.Between)
    ∷ (codes "by", k.By) ∷ (codes "case", k.Case) ∷ (codes "cast", k.Cast) ∷ (codes "cross", k.Cross)
    ∷ (codes "current_user", k.CurrentUser) ∷ (codes "desc", k.Desc) ∷ (codes "else", k.Else) ∷ (codes "end", k.End)
    ∷ (codes "false", k.False) ∷ (codes "for", k.For) ∷ (codes "from", k.From) ∷ (codes "group", k.Group)
    ∷ (codes "having", k.Having) ∷ (codes "in", k.In) ∷ (codes "inner", k.Inner) ∷ (codes "is", k.Is) ∷ (codes "join", k.Join)
    ∷ (codes "left", k.Left) ∷ (codes "limit", k.Limit) ∷ (codes "not", k.Not) ∷ (codes "null", k.Null) ∷ (codes "on", k.On) ∷ (codes "or", k.Or)
    ∷ (codes "order", k.Order) ∷ (codes "outer", k.Outer) ∷ (codes "select", k.Select) ∷ (codes "then", k.Then) ∷ (codes "to", k.To) ∷ (codes "true", k.True)
    ∷ (codes "using", k.Using) ∷ (codes "when", k.When) ∷ (codes "where", k.Where)
    ∷ (codes "distinct", k.Reserved) ∷ (codes "except", k.Reserved) ∷ (codes "exists", k.Reserved) ∷ (codes "fetch", k.Reserved)
    ∷ (codes "full", k.Reserved) ∷ (codes "intersect", k.Reserved) ∷ (codes "like", k.Reserved)
    ∷ (codes "natural", k.Reserved) ∷ (codes "offset", k.Reserved) ∷ (codes "right", k.Reserved)
    ∷ (codes "union", k.Reserved) ∷ (codes "window", k.Reserved) ∷ (codes "with", k.Reserved) ∷ []

-- the words that are names but where a rule expects them
abbrev pub unreserved : List (List ℕ × TokenKind)
unreserved =
    (codes "create", k.Create) ∷ (codes "role", k.Role) ∷ (codes "superuser", k.Superuser) ∷ (codes "bypassrls", k.Bypassrls)
    ∷ (codes "grant", k.Grant) ∷ (codes "revoke", k.Revoke) ∷ (codes "table", k.Table) ∷ (codes "alter", k.Alter)
    ∷ (codes "owner", k.Owner) ∷ (codes "enable", k.Enable) ∷ (codes "disable", k.Disable) ∷ (codes "force", k.Force)
    ∷ (codes "no", k.No) ∷ (codes "row", k.Row) ∷ (codes "level", k.Level) ∷ (codes "security", k.Security)
    ∷ (codes "index", k.Index) ∷ (codes "policy", k.Policy) ∷ (codes "permissive", k.Permissive) ∷ (codes "restrictive", k.Restrictive)
    ∷ (codes "drop", k.Drop) ∷ (codes "bigint", k.Bigint) ∷ (codes "text", k.Text) ∷ (codes "boolean", k.Boolean)
    ∷ (codes "count", k.Count) ∷ (codes "sum", k.Sum) ∷ (codes "min", k.Min) ∷ (codes "max", k.Max) ∷ []

-- the kind beside a word in a list; words are compared without regard to case
abbrev pub keyword_in : List (List ℕ × TokenKind) → TokenKind → List ℕ → TokenKind
keyword_in [] other w = other
keyword_in (e ∷ es) other w = if str_eq_ignore_ascii_case w e.0 then e.1 else keyword_in es other w

-- the kind of a word
unfoldable pub kind_of_word : List ℕ → TokenKind
kind_of_word w = keyword_in (reserved ++ unreserved) k.Name w

-- ---- one token

-- A lexeme is the first token of a text: its kind, the number of its bytes, and its number.
abbrev pub bad : Lexeme
bad = record { kind = k.Bad; size = 0; number = 0 }

abbrev pub plain : TokenKind → ℕ → Lexeme
plain kind size = record { kind = kind; size = size; number = 0 }

-- the most bytes of a name
abbrev pub most_name_bytes : ℕ
most_name_bytes = 63

abbrev pub word_lexeme : List ℕ → Lexeme
word_lexeme w = if nat_lt most_name_bytes (length w) then bad else plain (kind_of_word w) (length w)

-- a number by its value and the number of its digits; at most 9223372036854775808
abbrev pub number_of : ℕ → ℕ → Lexeme
number_of value size =
    if nat_lt value (2 ^ 63) then record { kind = k.Number; size = size; number = value }
    else if value == (2 ^ 63) then record { kind = k.MinMagnitude; size = size; number = value }
    else bad

-- digits are a number unless a letter follows them
abbrev pub number_lexeme : List ℕ → Bool → Lexeme
number_lexeme ds follows = if follows then bad else number_of (digits_value 10 ds) (length ds)

-- the number at the start of a text whose first byte is a digit
abbrev pub first_number : List ℕ → Lexeme
first_number text = number_lexeme (take_while is_ascii_digit text) (starts is_letter (drop (prefix_len is_ascii_digit text) text))

abbrev pub one_more : Option ℕ → Option ℕ
one_more None = None
one_more (Some n) = Some (n + 1)

-- the size of a string literal after its opening quote, with the closing one: the first quote that is not doubled
abbrev pub closing : List ℕ → Option ℕ
closing [] = None
closing (b ∷ []) = if b == 39 then Some 1 else None
closing (b ∷ c ∷ bs) = if b == 39 then (if c == 39 then one_more (one_more (closing bs)) else Some 1) else one_more (closing (c ∷ bs))

-- the value \N means null, so no string literal has it
abbrev pub quoted_lexeme : List ℕ → Option ℕ → Lexeme
quoted_lexeme bs None = bad
quoted_lexeme bs (Some n) = if bytes_eq (take n bs) (92 ∷ 78 ∷ 39 ∷ []) then bad else plain k.Quoted (n + 1)

-- the kinds of numbers
abbrev pub is_number : TokenKind → Bool
is_number k.Number = true
is_number k.MinMagnitude = true
is_number _ = false

-- a number is first in a text
abbrev pub starts_number : List ℕ → Bool
starts_number text = starts is_ascii_digit text && is_number (first_number text).kind

-- a text without the white space at its start
abbrev pub after_space : List ℕ → List ℕ
after_space text = drop (prefix_len is_space text) text

-- a minus is negative if the next token is a number, with white space between or not
abbrev pub minus_kind : List ℕ → TokenKind
minus_kind after = if starts_number (after_space after) then k.SignedMinus else k.Minus

-- a minus, by the text after it; -- would start a comment
abbrev pub minus_lexeme : List ℕ → Lexeme
minus_lexeme after = if starts (λ c. c == 45) after then bad else plain (minus_kind after) 1

-- the other signs, the longest first; /* would start a comment
abbrev pub sign_lexeme : ℕ → List ℕ → Lexeme
sign_lexeme b bs =
    if b == 40 then plain k.Open 1
    else if b == 41 then plain k.Close 1
    else if b == 44 then plain k.Comma 1
    else if b == 46 then plain k.Dot 1
    else if b == 59 then plain k.Semicolon 1
    else if b == 42 then plain k.Star 1
    else if b == 37 then plain k.Percent 1
    else if b == 43 then plain k.Plus 1
    else if b == 61 then plain k.Equal 1
    else if b == 47 then (if starts (λ c. c == 42) bs then bad else plain k.Slash 1)
    else if b == 60 then (if starts (λ c. c == 61) bs then plain k.LessEqual 2 else if starts (λ c. c == 62) bs then plain k.NotEqual 2 else plain k.Less 1)
    else if b == 62 then (if starts (λ c. c == 61) bs then plain k.GreaterEqual 2 else plain k.Greater 1)
    else bad

-- the first token of a text whose first byte is no white space
unfoldable pub lexeme : List ℕ → Lexeme
lexeme [] = bad
lexeme (b ∷ bs) =
    if is_letter b then word_lexeme (take_while goes_on (b ∷ bs))
    else if is_ascii_digit b then first_number (b ∷ bs)
    else if b == 39 then quoted_lexeme bs (closing bs)
    else if b == 45 then minus_lexeme bs
    else sign_lexeme b bs

-- ---- the tokens

abbrev pub word_at : ℕ → Lexeme → List ℕ → Token
word_at at l text = record { kind = l.kind; bytes = take l.size text; number = l.number; at = at }

-- The tokens of the text from an offset on, of whose bytes the first belong to the token before. A bad token is the
-- last.
unfoldable pub words_from : ℕ → ℕ → List ℕ → List Token
words_from skip at [] = []
words_from (suc n) at (b ∷ bs) = words_from n (at + 1) bs
words_from zero at (b ∷ bs) =
    if is_space b then words_from zero (at + 1) bs
    else word_at at (lexeme (b ∷ bs)) (b ∷ bs)
    ∷ (if (lexeme (b ∷ bs)).size == 0 then [] else words_from ((lexeme (b ∷ bs)).size - 1) (at + 1) bs)

abbrev pub words : List ℕ → List Token
words text = words_from 0 0 text

-- ---- the tokens, or the offset of the first bad one

-- bytes that are no token
abbrev pub is_bad : TokenKind → Bool
is_bad k.Bad = true
is_bad _ = false

-- the offset of the first bad token
abbrev pub first_bad : List Token → Option ℕ
first_bad [] = None
first_bad (w ∷ ws) = if is_bad w.kind then Some w.at else first_bad ws

abbrev pub good_or_bad : List Token → Option ℕ → Result (List Token) ℕ
good_or_bad ws None = Ok ws
good_or_bad ws (Some at) = Err at

-- all tokens of a text that has no bad one, else the offset of the first bad one
abbrev pub tokens_at : List ℕ → Result (List Token) ℕ
tokens_at text = good_or_bad (words text) (first_bad (words text))

-- ---- the values of tokens

-- a quote is first, and another last
abbrev pub in_quotes : List ℕ → Bool
in_quotes bytes = nat_lt 1 (length bytes) && (slice_index bytes 0 == 39) && (slice_index bytes (length bytes - 1) == 39)

-- the bytes between the quotes; of any other bytes nothing
abbrev pub between_quotes : List ℕ → List ℕ
between_quotes bytes = if in_quotes bytes then take (length bytes - 2) (drop 1 bytes) else []

-- each doubled quote once
abbrev pub undoubled : List ℕ → List ℕ
undoubled [] = []
undoubled (b ∷ []) = b ∷ []
undoubled (b ∷ c ∷ bs) = if (b == 39) && (c == 39) then 39 ∷ undoubled bs else b ∷ undoubled (c ∷ bs)

-- the value of a string literal
abbrev pub quoted_value : List ℕ → List ℕ
quoted_value bytes = undoubled (between_quotes bytes)

-- ---- the bytes of a string literal

-- a quote is doubled
abbrev pub doubled_quote : ℕ → List ℕ
doubled_quote b = if b == 39 then 39 ∷ 39 ∷ [] else b ∷ []

-- the string literal of a value
abbrev pub quoted : List ℕ → List ℕ
quoted value = 39 ∷ (flat_map doubled_quote value ++ 39 ∷ [])
