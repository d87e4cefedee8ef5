-- The expressions that the grammar makes of a text.
use Rattle.std.specs.Prelude.{◌≡◌, Bool, false, List, [], ◌∷◌}
use Rattle.value.specs.Datum.{Datum}
use Rattle.row_ast.specs.Ast as ast
use Rattle.row_ast.specs.Ast.{Arms, Expr, Exprs, Otherwise}
use Rattle.expr_texts.specs.Filters.{AreArms, AreTwo, IsLiteral, IsSome, is_and, is_or}
use Rattle.plan_laws.specs.Said.{IsUtf8Datum}

-- a literal that a text can have, in UTF-8
abbrev pub IsReadable : Datum → Type 0
IsReadable d = IsLiteral d × IsUtf8Datum d

-- such literals
abbrev pub AreReadable : List Datum → Type 0
AreReadable [] = Unit {0}
AreReadable (d ∷ ds) = IsReadable d × AreReadable ds

abbrev mutual
  -- an expression as the grammar makes it, outside arithmetic, casts and aggregates
  pub IsGrown : Expr → Type 0
  IsGrown (ast.Literal d) = IsReadable d
  IsGrown (ast.Comparison op at e f) = IsGrown e × IsGrown f
  IsGrown (ast.Between negated at e low high) = IsGrown e × IsGrown low × IsGrown high
  IsGrown (ast.In negated at values e) = IsSome values × AreReadable values × IsGrown e
  IsGrown (ast.IsNull negated at e) = IsGrown e
  IsGrown (ast.Not at e) = IsGrown e
  IsGrown (ast.And at es) = AreTwo es × AreGrown is_and es
  IsGrown (ast.Or at es) = AreTwo es × AreGrown is_or es
  IsGrown (ast.Case at as_ o) = AreArms as_ × ArmsGrown as_ × ElseGrown o
  IsGrown _ = Unit {0}

  -- such members, none of them merged into the expression that they are of
  pub AreGrown : (Expr → Bool) → Exprs → Type 0
  AreGrown merged ast.no_expr = Unit {0}
  AreGrown merged (ast.one_expr e es) = (merged e ≡ false) × IsGrown e × AreGrown merged es

  -- the arms of a CASE of such expressions
  pub ArmsGrown : Arms → Type 0
  ArmsGrown ast.no_arm = Unit {0}
  ArmsGrown (ast.one_arm when result as_) = IsGrown when × IsGrown result × ArmsGrown as_

  -- such a value after ELSE
  pub ElseGrown : Otherwise → Type 0
  ElseGrown ast.Nothing = Unit {0}
  ElseGrown (ast.Value e) = IsGrown e
