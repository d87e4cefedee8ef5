-- The tokens of the text of an expression.
use Rattle.std.proofs.Common.{ℕ, pos, negsuc, suc, ◌^◌, nat_lt, Bool, true, false, if◌then◌else◌, List, [], ◌∷◌, codes, Option, Some, None}
use Rattle.std.specs.Fmt.{decimal}
use Rattle.value.specs.Datum.{Datum, null, int, text, bool}
use Rattle.value.specs.declared.operators.Comparison as value
use Rattle.value.specs.declared.operators.Comparison.TheVariants as sign
use Rattle.row_tokens.specs.declared.token.TokenKind.{TokenKind}
use Rattle.row_tokens.specs.declared.token.TokenKind.TheVariants as k
use Rattle.row_tokens.specs.Tokens.{Token, quoted, kind_of_word}
use Rattle.row_ast.specs.Ast.{Expr, Exprs, Arms, Otherwise, Column, Literal, CurrentUser, Comparison, Between, In, IsNull, Not, And, Or, Case, no_expr, one_expr, no_arm, one_arm, Nothing, Value}
use Rattle.expr_texts.specs.ExprTexts.{sign_text}
use Rattle.row_tokens.proofs.Starts.{plain}

-- each list of tokens stands before further ones

abbrev pub named : List ℕ → Token
named name = plain (kind_of_word name) name

abbrev pub column_tokens : Option (List ℕ) → List ℕ → List Token → List Token
column_tokens None name us = named name ∷ us
column_tokens (Some alias) name us = named alias ∷ plain k.Dot (codes ".") ∷ named name ∷ us

-- a number of at most 2^63
abbrev pub number : ℕ → Token
number n = record { kind = if nat_lt n (2 ^ 63) then k.Number else k.MinMagnitude; bytes = decimal n; number = n; at = 0 }

abbrev pub literal_tokens : Datum → List Token → List Token
literal_tokens null us = plain k.Null (codes "NULL") ∷ us
literal_tokens (int (pos n)) us = number n ∷ us
literal_tokens (int (negsuc n)) us = plain k.SignedMinus (codes "-") ∷ number (suc n) ∷ us
literal_tokens (text t) us = plain k.Quoted (quoted t) ∷ us
literal_tokens (bool true) us = plain k.True (codes "TRUE") ∷ us
literal_tokens (bool false) us = plain k.False (codes "FALSE") ∷ us

abbrev pub further_literal_tokens : List Datum → List Token → List Token
further_literal_tokens [] us = us
further_literal_tokens (d ∷ ds) us = plain k.Comma (codes ",") ∷ literal_tokens d (further_literal_tokens ds us)

abbrev pub literals_tokens : List Datum → List Token → List Token
literals_tokens [] us = us
literals_tokens (d ∷ ds) us = literal_tokens d (further_literal_tokens ds us)

abbrev pub sign_kind : value.Comparison → TokenKind
sign_kind sign.Equal = k.Equal
sign_kind sign.NotEqual = k.NotEqual
sign_kind sign.Less = k.Less
sign_kind sign.LessOrEqual = k.LessEqual
sign_kind sign.Greater = k.Greater
sign_kind sign.GreaterOrEqual = k.GreaterEqual

abbrev pub sign_token : value.Comparison → Token
sign_token op = plain (sign_kind op) (sign_text op)

abbrev pub open_ : Token
open_ = plain k.Open (codes "(")

abbrev pub close : Token
close = plain k.Close (codes ")")

abbrev pub not_ : Token
not_ = plain k.Not (codes "NOT")

abbrev pub and_ : Token
and_ = plain k.And (codes "AND")

abbrev pub or_ : Token
or_ = plain k.Or (codes "OR")

abbrev pub null_ : Token
null_ = plain k.Null (codes "NULL")

abbrev pub not_tokens : Bool → List Token → List Token
not_tokens false us = us
not_tokens true us = not_ ∷ us

abbrev mutual
  pub expr_tokens : Expr → List Token → List Token
  expr_tokens (Column c) us = column_tokens c.table c.name us
  expr_tokens (Literal d) us = literal_tokens d us
  expr_tokens CurrentUser us = plain k.CurrentUser (codes "CURRENT_USER") ∷ us
  expr_tokens (Comparison op at e f) us = open_ ∷ expr_tokens e (sign_token op ∷ expr_tokens f (close ∷ us))
  expr_tokens (Between negated at e low high) us = open_ ∷ expr_tokens e (not_tokens negated (plain k.Between (codes "BETWEEN") ∷ expr_tokens low (and_ ∷ expr_tokens high (close ∷ us))))
  expr_tokens (In negated at values e) us = open_ ∷ expr_tokens e (not_tokens negated (plain k.In (codes "IN") ∷ open_ ∷ literals_tokens values (close ∷ close ∷ us)))
  expr_tokens (IsNull negated at e) us = open_ ∷ expr_tokens e (plain k.Is (codes "IS") ∷ not_tokens negated (null_ ∷ close ∷ us))
  expr_tokens (Not at e) us = open_ ∷ not_ ∷ expr_tokens e (close ∷ us)
  expr_tokens (And at es) us = open_ ∷ members_tokens and_ es (close ∷ us)
  expr_tokens (Or at es) us = open_ ∷ members_tokens or_ es (close ∷ us)
  expr_tokens (Case at as_ o) us = open_ ∷ plain k.Case (codes "CASE") ∷ arms_tokens as_ (else_tokens o (plain k.End (codes "END") ∷ close ∷ us))
  expr_tokens _ us = us

  pub members_tokens : Token → Exprs → List Token → List Token
  members_tokens word no_expr us = us
  members_tokens word (one_expr e es) us = expr_tokens e (further_tokens word es us)

  pub further_tokens : Token → Exprs → List Token → List Token
  further_tokens word no_expr us = us
  further_tokens word (one_expr e es) us = word ∷ expr_tokens e (further_tokens word es us)

  pub arms_tokens : Arms → List Token → List Token
  arms_tokens no_arm us = us
  arms_tokens (one_arm when result as_) us = plain k.When (codes "WHEN") ∷ expr_tokens when (plain k.Then (codes "THEN") ∷ expr_tokens result (arms_tokens as_ us))

  pub else_tokens : Otherwise → List Token → List Token
  else_tokens Nothing us = us
  else_tokens (Value e) us = plain k.Else (codes "ELSE") ∷ expr_tokens e us
