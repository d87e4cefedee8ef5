-- The types of expressions, by rules.
use Rattle.std.specs.Prelude.{◌≡◌, ◌≢◌, ◌⊎◌, true, All, List, Some, None}
use Rattle.value.specs.Datum.{Datum}
use Rattle.value.specs.declared.types.ColType.{ColType}
use Rattle.value.specs.declared.types.ColType.TheVariants.{Bigint, Text, Boolean}
use Rattle.value.specs.declared.operators.Aggregate.{Aggregate}
use Rattle.value.specs.declared.operators.Aggregate.TheVariants.{Count, Sum, Min, Max}
use Rattle.expr.specs.Bound.{BoundExpr, Column, Literal, CurrentUser, Negate, Arithmetic, Comparison, Between, In, IsNull, Not, And, Or, Cast, Case, CountStar, Call, BoundExprs, no_expr, one_expr, BoundArms, no_arm, one_arm, BoundOtherwise, Nothing, Value}
use Rattle.scope.specs.Entry.{Entry}
use Rattle.typing.specs.Typing.{TypeOf, type_of, column_type, can_cast}

-- ---- types

-- a type fits where it is the one that is wanted, and that of NULL always
abbrev pub IsFitting : TypeOf → TypeOf → Type 0
IsFitting a t = (a ≡ None) ⊎ (a ≡ t)

-- what is of a type that fits
abbrev pub IsOfFitting : (TypeOf → Type 0) → TypeOf → Type 0
IsOfFitting IsOf t = (a : TypeOf) × IsOf a × IsFitting a t

-- a value of the type, or null
abbrev pub HasType : TypeOf → Datum → Type 0
HasType t d = IsFitting (type_of d) t

-- the type of an aggregate, after that of its argument
abbrev pub IsAggregateType : Aggregate → TypeOf → TypeOf → Type 0
IsAggregateType Count a t = t ≡ Some Bigint
IsAggregateType Sum a t = IsFitting a (Some Bigint) × (t ≡ Some Bigint)
IsAggregateType Min a t = (a ≢ Some Boolean) × (t ≡ a)
IsAggregateType Max a t = (a ≢ Some Boolean) × (t ≡ a)

-- ---- expressions

module _ (entries : List Entry) where
  abbrev mutual
    -- the expression is of the type; NULL is of none
    pub IsOfType : BoundExpr → TypeOf → Type 0
    IsOfType (Column id) t = t ≡ column_type entries id
    IsOfType (Literal d) t = t ≡ type_of d
    IsOfType CurrentUser t = t ≡ Some Text
    IsOfType (Negate offset e) t = IsOfFitting (IsOfType e) (Some Bigint) × (t ≡ Some Bigint)
    IsOfType (Arithmetic op offset e f) t = IsOfFitting (IsOfType e) (Some Bigint) × IsOfFitting (IsOfType f) (Some Bigint) × (t ≡ Some Bigint)
    -- of values of one type
    IsOfType (Comparison op offset e f) t = (c : ColType) × IsOfFitting (IsOfType e) (Some c) × IsOfFitting (IsOfType f) (Some c) × (t ≡ Some Boolean)
    IsOfType (Between negated offset e low high) t =
        (c : ColType) × IsOfFitting (IsOfType e) (Some c) × IsOfFitting (IsOfType low) (Some c) × IsOfFitting (IsOfType high) (Some c) × (t ≡ Some Boolean)
    IsOfType (In negated offset values e) t = (c : ColType) × IsOfFitting (IsOfType e) (Some c) × All (HasType (Some c)) values × (t ≡ Some Boolean)
    -- of a value of any type
    IsOfType (IsNull negated offset e) t = (a : TypeOf) × IsOfType e a × (t ≡ Some Boolean)
    IsOfType (Not offset e) t = IsOfFitting (IsOfType e) (Some Boolean) × (t ≡ Some Boolean)
    IsOfType (And offset es) t = AreConditions es × (t ≡ Some Boolean)
    IsOfType (Or offset es) t = AreConditions es × (t ≡ Some Boolean)
    IsOfType (Cast offset to e) t = (a : TypeOf) × IsOfType e a × (can_cast to a ≡ true) × (t ≡ Some to)
    -- the type of one result, ELSE's included, which those of all fit
    IsOfType (Case offset as_ o) t = ArmsFit as_ t × IsOfFitting (IsElseType o) t × (IsArmType as_ t ⊎ IsElseType o t)
    IsOfType (CountStar offset) t = t ≡ Some Bigint
    IsOfType (Call f offset e) t = (a : TypeOf) × IsOfType e a × IsAggregateType f a t

    -- the members of an AND or OR
    pub AreConditions : BoundExprs → Type 0
    AreConditions no_expr = Unit {0}
    AreConditions (one_expr e es) = IsOfFitting (IsOfType e) (Some Boolean) × AreConditions es

    -- each WHEN is a condition, and the type of each result fits
    pub ArmsFit : BoundArms → TypeOf → Type 0
    ArmsFit no_arm t = Unit {0}
    ArmsFit (one_arm when result as_) t = IsOfFitting (IsOfType when) (Some Boolean) × IsOfFitting (IsOfType result) t × ArmsFit as_ t

    -- some result is of the type
    pub IsArmType : BoundArms → TypeOf → Type 0
    IsArmType no_arm t = ⊥
    IsArmType (one_arm when result as_) t = IsOfType result t ⊎ IsArmType as_ t

    -- the result without ELSE is NULL
    pub IsElseType : BoundOtherwise → TypeOf → Type 0
    IsElseType Nothing t = t ≡ None
    IsElseType (Value e) t = IsOfType e t
