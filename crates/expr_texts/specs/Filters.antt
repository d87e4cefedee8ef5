-- The reading of a filter's text, and the filters that are read from their own text.
use Rattle.std.specs.Prelude.{◌≡◌, ◌≤◌, ℕ, suc, max, Bool, true, false, List, [], ◌∷◌, length, Option, Some, None, Result, Ok, Err}
use Rattle.std.specs.List.{list_all}
use Rattle.row_grammar.specs.Limits.{Derives, whole_at}
use Rattle.row_grammar.specs.declared.error.ReadError.{ReadError}
use Rattle.value.specs.Datum.{Datum, int}
use Rattle.value.specs.Names.{Name}
use Rattle.value.specs.Exact.{is_bigint}
use Rattle.value.specs.Texts.{IsNoNullMark}
use Rattle.row_tokens.specs.Tokens.{Token, folded, goes_on, is_letter, kind_of_word, most_name_bytes, starts}
use Rattle.row_reader.specs.Language.{Located, is_name}
use Rattle.row_reader.specs.Expressions.{grammar, expression, run_limit, depth_limit}
use Rattle.row_ast.specs.Ast.{Expr, Exprs, Arms, Otherwise, Column, Literal, CurrentUser, Comparison, Between, In, IsNull, Not, And, Or, Case, no_expr, one_expr, no_arm, one_arm, Nothing, Value}
use Rattle.row_tokens.specs.WithoutOffsets.{words_without_offsets}
use Rattle.expr_texts.specs.Trees.{without_offsets}
use Rattle.expr_texts.specs.ExprTexts.{expr_text}

-- the most levels of the text of a filter
abbrev pub filter_levels : ℕ
filter_levels = 512

-- The grammar derives the text with the expression, nested at most 512 deep, with runs of any length: none is longer
-- than the text.
abbrev pub DerivesFilter : List ℕ → Expr → Type 0
DerivesFilter source e = (start : ℕ) × Derives grammar (length source) filter_levels expression (words_without_offsets source) (start, e) []

-- the tree of a reading, where there is one
abbrev pub read_of : {A : Type 0} → Result A ReadError → Option A
read_of (Ok t) = Some t
read_of (Err e) = None

-- the expression of a reading, without its offset
abbrev pub tree_in : Result Located ReadError → Option Expr
tree_in (Ok t) = Some t.1
tree_in (Err e) = None

-- the expression that a text is read as
abbrev pub expr_at : List ℕ → Option Expr
expr_at source = tree_in (whole_at grammar (length source) filter_levels expression (words_without_offsets source))

-- the reading of a text as an expression is determined by its derivations
abbrev pub IsDetermined : Type 0
IsDetermined = (source : List ℕ) (e : Expr) → (expr_at source ≡ Some e → DerivesFilter source e) × (DerivesFilter source e → expr_at source ≡ Some e)

-- ---- expressions with a text

-- a name as it is in a tree: a word in lower case, not reserved, of at most 63 bytes
pub record IsName (name : Name) : Type 0 where
  pub starts_well : starts is_letter name ≡ true
  pub goes_well : list_all goes_on name ≡ true
  pub short : length name ≤ most_name_bytes
  pub in_lower_case : folded name ≡ name
  pub not_reserved : is_name (kind_of_word name) ≡ true

-- a column with the alias of its entry
abbrev pub IsNamed : Option Name → Name → Type 0
IsNamed (Some alias) name = IsName alias × IsName name
IsNamed None name = ⊥

-- a literal that a text can have
abbrev pub IsLiteral : Datum → Type 0
IsLiteral (int n) = is_bigint n ≡ true
IsLiteral d = IsNoNullMark d

-- the expression is an AND
abbrev pub is_and : Expr → Bool
is_and (And at es) = true
is_and _ = false

-- the expression is an OR
abbrev pub is_or : Expr → Bool
is_or (Or at es) = true
is_or _ = false

-- literals that a text can have
abbrev pub AreLiterals : List Datum → Type 0
AreLiterals [] = Unit {0}
AreLiterals (d ∷ ds) = IsLiteral d × AreLiterals ds

-- one literal at least
abbrev pub IsSome : List Datum → Type 0
IsSome [] = ⊥
IsSome (d ∷ ds) = Unit {0}

-- two members at least
abbrev pub AreTwo : Exprs → Type 0
AreTwo (one_expr e (one_expr f es)) = Unit {0}
AreTwo _ = ⊥

-- one arm at least
abbrev pub AreArms : Arms → Type 0
AreArms no_arm = ⊥
AreArms (one_arm when result as_) = Unit {0}

abbrev mutual
  -- an expression as the grammar makes it, with qualified columns and without arithmetic, casts and aggregates
  pub IsWritten : Expr → Type 0
  IsWritten (Column c) = IsNamed c.table c.name
  IsWritten (Literal d) = IsLiteral d
  IsWritten CurrentUser = Unit {0}
  IsWritten (Comparison op at e f) = IsWritten e × IsWritten f
  IsWritten (Between negated at e low high) = IsWritten e × IsWritten low × IsWritten high
  IsWritten (In negated at values e) = IsSome values × AreLiterals values × IsWritten e
  IsWritten (IsNull negated at e) = IsWritten e
  IsWritten (Not at e) = IsWritten e
  IsWritten (And at es) = AreTwo es × AreWritten is_and es
  IsWritten (Or at es) = AreTwo es × AreWritten is_or es
  IsWritten (Case at as_ o) = AreArms as_ × ArmsWritten as_ × ElseWritten o
  IsWritten _ = ⊥

  -- such members, none of them merged into the expression that they are of
  pub AreWritten : (Expr → Bool) → Exprs → Type 0
  AreWritten merged no_expr = Unit {0}
  AreWritten merged (one_expr e es) = (merged e ≡ false) × IsWritten e × AreWritten merged es

  -- the arms of a CASE of such expressions
  pub ArmsWritten : Arms → Type 0
  ArmsWritten no_arm = Unit {0}
  ArmsWritten (one_arm when result as_) = IsWritten when × IsWritten result × ArmsWritten as_

  -- such a value after ELSE
  pub ElseWritten : Otherwise → Type 0
  ElseWritten Nothing = Unit {0}
  ElseWritten (Value e) = IsWritten e

abbrev mutual
  -- the levels of the text of an expression: each operation opens a parenthesis, and NOT, CASE and IN a level more
  pub levels : Expr → ℕ
  levels (Comparison op at e f) = suc (max (levels e) (levels f))
  levels (Between negated at e low high) = suc (max (levels e) (max (levels low) (levels high)))
  levels (In negated at values e) = suc (max 1 (levels e))
  levels (IsNull negated at e) = suc (levels e)
  levels (Not at e) = suc (suc (levels e))
  levels (And at es) = suc (most_levels es)
  levels (Or at es) = suc (most_levels es)
  levels (Case at as_ o) = suc (suc (max (arms_levels as_) (else_levels o)))
  levels _ = 0

  -- the most levels of a member
  pub most_levels : Exprs → ℕ
  most_levels no_expr = 0
  most_levels (one_expr e es) = max (levels e) (most_levels es)

  -- the most levels of an arm
  pub arms_levels : Arms → ℕ
  arms_levels no_arm = 0
  arms_levels (one_arm when result as_) = max (levels when) (max (levels result) (arms_levels as_))

  -- the levels of the value after ELSE
  pub else_levels : Otherwise → ℕ
  else_levels Nothing = 0
  else_levels (Value e) = levels e

-- the text of an expression is read as the expression
abbrev pub TextsReadBack : Type 0
TextsReadBack = (e : Expr) → IsWritten e → levels e ≤ filter_levels → expr_at (expr_text e) ≡ Some (without_offsets e)

-- an expression of a query's text is written within the levels of a filter
abbrev pub QueriesFit : Type 0
QueriesFit = (ts us : List Token) (start : ℕ) (e : Expr) → Derives grammar run_limit depth_limit expression ts (start, e) us → levels e ≤ filter_levels
