-- AND and OR: their words, and the expressions of their members.
use Rattle.std.specs.Prelude.{ℕ, List}
use Rattle.row_tokens.specs.declared.token.TokenKind.{TokenKind}
use Rattle.row_tokens.specs.declared.token.TokenKind.TheVariants as k
use Rattle.row_ast.specs.Ast as ast
use Rattle.row_ast.specs.Ast.{Expr, exprs_of, and_members, or_members}
use Rattle.row_expressions.specs.declared.build.Connective.{Connective}
use Rattle.row_expressions.specs.declared.build.Connective.TheVariants as connective

-- the word
abbrev pub connective_word : Connective → TokenKind
connective_word connective.And = k.And
connective_word connective.Or = k.Or

-- the members of an operand: its own where it is one of these
abbrev pub members_of : Connective → Expr → List Expr
members_of connective.And e = and_members e
members_of connective.Or e = or_members e

-- the AND or OR of members, by the offset of its first word
abbrev pub joined_expr : Connective → ℕ → List Expr → Expr
joined_expr connective.And offset members = ast.And offset (exprs_of members)
joined_expr connective.Or offset members = ast.Or offset (exprs_of members)
