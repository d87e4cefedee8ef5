-- The tokens and the names of rules of the grammar.
use Rattle.std.specs.Prelude.{ℕ, Bool, true, false, ◌||◌, List, [], ◌∷◌, Option, Some, None}
use denote.Enum.Bare.{sameb}
use Rattle.row_grammar.specs.Grammar.{Language, Form, word, nothing, both, either, made, many, nest}
use Rattle.row_tokens.specs.contracts.token.TokenKind.{the_type}
use Rattle.row_tokens.specs.declared.token.TokenKind.{TokenKind}
use Rattle.row_tokens.specs.declared.token.TokenKind.TheVariants as k
use Rattle.row_tokens.specs.Tokens.{Token, folded}
use Rattle.value.specs.Names.{Name}
use Rattle.row_ast.specs.Ast.{Expr}
use Rattle.row_reader.specs.declared.reader.Class.{Class}
use Rattle.row_reader.specs.declared.reader.Class.TheVariants as c

-- the rules that are a level deeper
pub data Nested : Type 0 where
  an_expression : Nested
  a_negation : Nested
  a_unary : Nested

-- an expression, and the offset of its first token
abbrev pub Located : Type 0
Located = ℕ × Expr

abbrev pub Tree : Nested → Type 0
Tree r = Located

abbrev pub kind_of : Token → TokenKind
kind_of w = w.kind

abbrev pub language : Language
language = record { Kind = TokenKind; Token = Token; kind = kind_of; Inner = Nested; Tree = Tree }

abbrev pub Rule : Type 0 → Type 1
Rule A = Form language A

-- the offset of the next token; 0 for none
abbrev pub next_at : List Token → ℕ
next_at [] = 0
next_at (w ∷ ws) = w.at

-- the kind is this one
unfoldable pub is : TokenKind → TokenKind → Bool
is a b = sameb the_type b a

-- ---- kinds that are read alike

-- a word that may be a name: all but the reserved ones, of which not some that start more than a name in an expression
abbrev pub is_plain : TokenKind → Bool
is_plain k.Name = true
is_plain k.Create = true
is_plain k.Role = true
is_plain k.Superuser = true
is_plain k.Bypassrls = true
is_plain k.Grant = true
is_plain k.Revoke = true
is_plain k.Table = true
is_plain k.Alter = true
is_plain k.Owner = true
is_plain k.Enable = true
is_plain k.Disable = true
is_plain k.Force = true
is_plain k.No = true
is_plain k.Row = true
is_plain k.Level = true
is_plain k.Security = true
is_plain k.Index = true
is_plain k.Policy = true
is_plain k.Permissive = true
is_plain k.Restrictive = true
is_plain k.Drop = true
is_plain k.Bigint = true
is_plain k.Text = true
is_plain k.Boolean = true
is_plain _ = false

-- sum, min and max
abbrev pub is_aggregate : TokenKind → Bool
is_aggregate kind = is k.Sum kind || (is k.Min kind || is k.Max kind)

abbrev pub is_name : TokenKind → Bool
is_name k.Count = true
is_name k.Sum = true
is_name k.Min = true
is_name k.Max = true
is_name other = is_plain other

-- a number after a minus
abbrev pub is_magnitude : TokenKind → Bool
is_magnitude k.Number = true
is_magnitude k.MinMagnitude = true
is_magnitude _ = false

-- a minus, before a number or not
abbrev pub is_sign : TokenKind → Bool
is_sign k.Minus = true
is_sign k.SignedMinus = true
is_sign _ = false

-- = <> < <= > >=
abbrev pub is_comparison : TokenKind → Bool
is_comparison kind = is k.Equal kind || (is k.NotEqual kind || (is k.Less kind || (is k.LessEqual kind || (is k.Greater kind || is k.GreaterEqual kind))))

-- + and -, before a number or not
abbrev pub is_addition : TokenKind → Bool
is_addition kind = is k.Plus kind || is_sign kind

-- * / %
abbrev pub is_multiplication : TokenKind → Bool
is_multiplication kind = is k.Star kind || (is k.Slash kind || is k.Percent kind)

-- the kinds of a class
unfoldable pub of : Class → TokenKind → Bool
of c.Name kind = is_name kind
of c.PlainName kind = is_plain kind
of c.Aggregate kind = is_aggregate kind
of c.Magnitude kind = is_magnitude kind
of c.Sign kind = is_sign kind
of c.Comparison kind = is_comparison kind
of c.Addition kind = is_addition kind
of c.Multiplication kind = is_multiplication kind

-- ---- shorthands

abbrev pub maybe : {A : Type 0} → Rule A → Rule (Option A)
maybe g = either (made Some g) (nothing None)

abbrev pub after : {A : Type 0} → (TokenKind → Bool) → Rule A → Rule A
after p g = made (λ x. x.1) (both (word p) g)

-- a form between parentheses
abbrev pub enclosed : {A : Type 0} → Rule A → Rule A
enclosed g = after (is k.Open) (made (λ x. x.0) (both g (word (is k.Close))))

-- a form between parentheses of an expression, which open a level
abbrev pub inside : {A : Type 0} → Rule A → Rule A
inside g = made (λ x. x.1.0) (nest (is k.Open) (both g (word (is k.Close))))

-- one or more, the further ones by a rule of their own
abbrev pub listed : {A : Type 0} → Rule A → Rule A → Rule (List A)
listed g h = made (λ p. p.0 ∷ p.1) (both g (many false h))

-- g {, g}
abbrev pub comma_list : {A : Type 0} → Rule A → Rule (List A)
comma_list g = listed g (after (is k.Comma) g)

abbrev pub name_of : Token → Name
name_of w = folded w.bytes
