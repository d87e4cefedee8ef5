-- Conditions with a text that is read back.
use Rattle.std.specs.Prelude.{◌≤◌, List, [], ◌∷◌}
use Rattle.std.specs.Str.{IsUtf8}
use Rattle.value.specs.Datum.{Datum, null, int, text, bool}
use Rattle.expr.specs.Bound.{BoundExpr, Column, Literal, CurrentUser, Negate, Arithmetic, Comparison, Between, In, IsNull, Not, And, Or, Cast, Case, CountStar, Call, BoundExprs, no_expr, one_expr, BoundArms, no_arm, one_arm, BoundOtherwise, Nothing, Value}
use Rattle.scope.specs.Entry.{Entry}
use Rattle.expr_texts.specs.Filters.{IsWritten, levels, filter_levels}
use Rattle.bound_plans.specs.Named.{named}

-- a text in UTF-8, or a value that is no text
abbrev pub IsUtf8Datum : Datum → Type 0
IsUtf8Datum null = Unit {0}
IsUtf8Datum (int n) = Unit {0}
IsUtf8Datum (text t) = IsUtf8 t
IsUtf8Datum (bool b) = Unit {0}

-- such values
abbrev pub AreUtf8 : List Datum → Type 0
AreUtf8 [] = Unit {0}
AreUtf8 (d ∷ ds) = IsUtf8Datum d × AreUtf8 ds

abbrev mutual
  -- each text literal of the condition is in UTF-8
  pub HasUtf8 : BoundExpr → Type 0
  HasUtf8 (Column id) = Unit {0}
  HasUtf8 (Literal d) = IsUtf8Datum d
  HasUtf8 CurrentUser = Unit {0}
  HasUtf8 (Negate offset e) = HasUtf8 e
  HasUtf8 (Arithmetic op offset e f) = HasUtf8 e × HasUtf8 f
  HasUtf8 (Comparison op offset e f) = HasUtf8 e × HasUtf8 f
  HasUtf8 (Between negated offset e low high) = HasUtf8 e × HasUtf8 low × HasUtf8 high
  HasUtf8 (In negated offset values e) = AreUtf8 values × HasUtf8 e
  HasUtf8 (IsNull negated offset e) = HasUtf8 e
  HasUtf8 (Not offset e) = HasUtf8 e
  HasUtf8 (And offset es) = HaveUtf8 es
  HasUtf8 (Or offset es) = HaveUtf8 es
  HasUtf8 (Cast offset to e) = HasUtf8 e
  HasUtf8 (Case offset as_ o) = ArmsHaveUtf8 as_ × ElseHasUtf8 o
  HasUtf8 (CountStar offset) = Unit {0}
  HasUtf8 (Call f offset e) = HasUtf8 e

  -- the same of members, of arms and of an ELSE
  pub HaveUtf8 : BoundExprs → Type 0
  HaveUtf8 no_expr = Unit {0}
  HaveUtf8 (one_expr e es) = HasUtf8 e × HaveUtf8 es

  pub ArmsHaveUtf8 : BoundArms → Type 0
  ArmsHaveUtf8 no_arm = Unit {0}
  ArmsHaveUtf8 (one_arm when result as_) = HasUtf8 when × HasUtf8 result × ArmsHaveUtf8 as_

  pub ElseHasUtf8 : BoundOtherwise → Type 0
  ElseHasUtf8 Nothing = Unit {0}
  ElseHasUtf8 (Value e) = HasUtf8 e

-- a condition that has a text which is read back: its tree with the columns named
pub record IsSaid (entries : List Entry) (e : BoundExpr) : Type 0 where
  pub written : IsWritten (named entries e)
  pub shallow : levels (named entries e) ≤ filter_levels
  pub utf8 : HasUtf8 e
