-- Conditions of the operations that a text has: no arithmetic, no casts, no aggregates; ANDs and ORs of two members or more, of
-- which none is itself such an AND or OR. A fact is known of each column, and one of each literal.
use Rattle.std.proofs.Common.{◌≡◌, Bool, true, false, List, [], ◌∷◌}
use Rattle.value.specs.Datum.{Datum}
use Rattle.expr.specs.declared.bound.ColumnId.{ColumnId}
use Rattle.expr.specs.Bound.{BoundExpr, Column, Literal, CurrentUser, Comparison, Between, In, IsNull, Not, And, Or, Case, BoundExprs, no_expr, one_expr, BoundArms, no_arm, one_arm, BoundOtherwise, Nothing, Value}
use Rattle.expr_texts.specs.Filters.{IsSome}

abbrev pub is_and : BoundExpr → Bool
is_and (And offset es) = true
is_and _ = false

abbrev pub is_or : BoundExpr → Bool
is_or (Or offset es) = true
is_or _ = false

-- one member at least
abbrev pub AreSome : BoundExprs → Type 0
AreSome no_expr = ⊥
AreSome (one_expr e es) = Unit {0}

-- two members at least
abbrev pub AreTwo : BoundExprs → Type 0
AreTwo no_expr = ⊥
AreTwo (one_expr e es) = AreSome es

-- one arm at least
abbrev pub AreArms : BoundArms → Type 0
AreArms no_arm = ⊥
AreArms (one_arm when result as_) = Unit {0}

-- the fact is known of each value
abbrev pub AreValues : (Datum → Type 0) → List Datum → Type 0
AreValues Q [] = Unit {0}
AreValues Q (d ∷ ds) = Q d × AreValues Q ds

module _ (P : ColumnId → Type 0) (Q : Datum → Type 0) where
  abbrev mutual
    pub IsPlain : BoundExpr → Type 0
    IsPlain (Column id) = P id
    IsPlain (Literal d) = Q d
    IsPlain CurrentUser = Unit {0}
    IsPlain (Comparison op offset e f) = IsPlain e × IsPlain f
    IsPlain (Between negated offset e low high) = IsPlain e × IsPlain low × IsPlain high
    IsPlain (In negated offset values e) = IsSome values × AreValues Q values × IsPlain e
    IsPlain (IsNull negated offset e) = IsPlain e
    IsPlain (Not offset e) = IsPlain e
    IsPlain (And offset es) = AreTwo es × ArePlain is_and es
    IsPlain (Or offset es) = AreTwo es × ArePlain is_or es
    IsPlain (Case offset as_ o) = AreArms as_ × ArmsPlain as_ × ElsePlain o
    IsPlain _ = ⊥

    -- such members, none of them merged into the expression that they are of
    pub ArePlain : (BoundExpr → Bool) → BoundExprs → Type 0
    ArePlain merged no_expr = Unit {0}
    ArePlain merged (one_expr e es) = (merged e ≡ false) × IsPlain e × ArePlain merged es

    pub ArmsPlain : BoundArms → Type 0
    ArmsPlain no_arm = Unit {0}
    ArmsPlain (one_arm when result as_) = IsPlain when × IsPlain result × ArmsPlain as_

    pub ElsePlain : BoundOtherwise → Type 0
    ElsePlain Nothing = Unit {0}
    ElsePlain (Value e) = IsPlain e
