-- How an expression is written in a plan: every operation in parentheses, words in capitals, single spaces.
use Rattle.std.specs.Prelude.{ℕ, Bool, true, false, List, [], ◌∷◌, ◌++◌, Option, Some, None, codes}
use Rattle.std.specs.Fmt.{signed_decimal}
use Rattle.value.specs.Datum.{Datum, null, int, text, bool}
use Rattle.value.specs.declared.operators.Comparison as value
use Rattle.value.specs.declared.operators.Comparison.TheVariants as sign
use Rattle.value.specs.Names.{Name}
use Rattle.row_tokens.specs.Tokens.{quoted}
use Rattle.row_ast.specs.Ast.{Expr, Exprs, Arms, Otherwise, Column, Literal, CurrentUser, Negate, Arithmetic, Comparison, Between, In, IsNull, Not, And, Or, Cast, Case, CountStar, Call, no_expr, one_expr, no_arm, one_arm, Nothing, Value}

-- alias.column
abbrev pub column_text : Option Name → Name → List ℕ
column_text (Some alias) name = alias ++ codes "." ++ name
column_text None name = name

-- a literal: a number in decimal, a text in quotes with each of its own doubled, or a word
abbrev pub literal_text : Datum → List ℕ
literal_text null = codes "NULL"
literal_text (int n) = signed_decimal n
literal_text (text t) = quoted t
literal_text (bool true) = codes "TRUE"
literal_text (bool false) = codes "FALSE"

-- the literals after the first, each after ", "
abbrev pub further_literals : List Datum → List ℕ
further_literals [] = []
further_literals (d ∷ ds) = codes ", " ++ literal_text d ++ further_literals ds

-- literals with ", " between them
abbrev pub literals_text : List Datum → List ℕ
literals_text [] = []
literals_text (d ∷ ds) = literal_text d ++ further_literals ds

-- the sign of a comparison
abbrev pub sign_text : value.Comparison → List ℕ
sign_text sign.Equal = codes "="
sign_text sign.NotEqual = codes "<>"
sign_text sign.Less = codes "<"
sign_text sign.LessOrEqual = codes "<="
sign_text sign.Greater = codes ">"
sign_text sign.GreaterOrEqual = codes ">="

-- NOT after a space, where it is written
abbrev pub not_text : Bool → List ℕ
not_text false = []
not_text true = codes " NOT"

abbrev mutual
  -- The text of an expression. Arithmetic, casts and aggregates are in no filter of a plan, and have none.
  pub expr_text : Expr → List ℕ
  expr_text (Column c) = column_text c.table c.name
  expr_text (Literal d) = literal_text d
  expr_text CurrentUser = codes "CURRENT_USER"
  expr_text (Comparison op at e f) = codes "(" ++ expr_text e ++ codes " " ++ sign_text op ++ codes " " ++ expr_text f ++ codes ")"
  expr_text (Between negated at e low high) = codes "(" ++ expr_text e ++ not_text negated ++ codes " BETWEEN " ++ expr_text low ++ codes " AND " ++ expr_text high ++ codes ")"
  expr_text (In negated at values e) = codes "(" ++ expr_text e ++ not_text negated ++ codes " IN (" ++ literals_text values ++ codes "))"
  expr_text (IsNull negated at e) = codes "(" ++ expr_text e ++ codes " IS" ++ not_text negated ++ codes " NULL)"
  expr_text (Not at e) = codes "(NOT " ++ expr_text e ++ codes ")"
  expr_text (And at es) = codes "(" ++ members_text (codes " AND ") es ++ codes ")"
  expr_text (Or at es) = codes "(" ++ members_text (codes " OR ") es ++ codes ")"
  expr_text (Case at as_ o) = codes "(CASE" ++ arms_text as_ ++ else_text o ++ codes " END)"
  expr_text (Negate at e) = []
  expr_text (Arithmetic op at e f) = []
  expr_text (Cast at to e) = []
  expr_text (CountStar at) = []
  expr_text (Call f at e) = []

  -- members of an AND or OR with its word between them
  pub members_text : List ℕ → Exprs → List ℕ
  members_text word no_expr = []
  members_text word (one_expr e es) = expr_text e ++ further_text word es

  -- the members after the first, each after the word
  pub further_text : List ℕ → Exprs → List ℕ
  further_text word no_expr = []
  further_text word (one_expr e es) = word ++ expr_text e ++ further_text word es

  -- the arms of a CASE
  pub arms_text : Arms → List ℕ
  arms_text no_arm = []
  arms_text (one_arm when result as_) = codes " WHEN " ++ expr_text when ++ codes " THEN " ++ expr_text result ++ arms_text as_

  -- ELSE and its value, where it is written
  pub else_text : Otherwise → List ℕ
  else_text Nothing = []
  else_text (Value e) = codes " ELSE " ++ expr_text e
