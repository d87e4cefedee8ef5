-- Expressions without offsets, each column of one kind: what the forms of conditions keep of them.
use Rattle.std.proofs.Common.{◌≡◌, refl, subst, Bool, true, false, ◌++◌, Option, Some, None, if◌then◌else◌}
use Rattle.std.specs.List.{AllByRecursion}
use Rattle.value.specs.Datum.{Datum}
use Rattle.value.specs.declared.operators.Comparison.TheVariants.{Equal}
use Rattle.expr.specs.declared.bound.ColumnId.{ColumnId}
use Rattle.expr.specs.Bound.{BoundExpr, Column, Literal, CurrentUser, Negate, Arithmetic, Comparison, Between, In, IsNull, Not, And, Or, Cast, Case, CountStar, Call, BoundExprs, no_expr, one_expr, BoundArms, no_arm, one_arm, BoundOtherwise, Nothing, Value}
use Rattle.expr.specs.Columns.{columns, all_columns, arms_columns, otherwise_columns}
use Rattle.plan_laws.proofs.EachColumn.{left_of, of_both, right_of}
use Rattle.predicates.specs.Equalities.{column_sides}
use Rattle.predicates.specs.Folded.{folded, folded_node, literal_or, of_literals, value_alone}
use Rattle.predicates.specs.Inward.{before, and_members, or_members, and_before, or_before, inward, not_inward, and_inward, or_inward, not_and_inward, not_or_inward}
use Rattle.predicates.specs.Offsets.{without_offset, without_offsets}
use Rattle.predicates.specs.Rebuilt.{all_rebuilt, arms_rebuilt, otherwise_rebuilt}

module _ (Q : ColumnId → Type 0) where
  abbrev mutual
    -- each offset is 0, and Q holds of each column
    pub IsBare : BoundExpr → Type 0
    IsBare (Column id) = Q id
    IsBare (Literal d) = Unit {0}
    IsBare CurrentUser = Unit {0}
    IsBare (Negate offset e) = (offset ≡ 0) × IsBare e
    IsBare (Arithmetic op offset e f) = (offset ≡ 0) × IsBare e × IsBare f
    IsBare (Comparison op offset e f) = (offset ≡ 0) × IsBare e × IsBare f
    IsBare (Between negated offset e low high) = (offset ≡ 0) × IsBare e × IsBare low × IsBare high
    IsBare (In negated offset values e) = (offset ≡ 0) × IsBare e
    IsBare (IsNull negated offset e) = (offset ≡ 0) × IsBare e
    IsBare (Not offset e) = (offset ≡ 0) × IsBare e
    IsBare (And offset es) = (offset ≡ 0) × AreBare es
    IsBare (Or offset es) = (offset ≡ 0) × AreBare es
    IsBare (Cast offset to e) = (offset ≡ 0) × IsBare e
    IsBare (Case offset as_ o) = (offset ≡ 0) × ArmsBare as_ × ElseBare o
    IsBare (CountStar offset) = offset ≡ 0
    IsBare (Call f offset e) = (offset ≡ 0) × IsBare e

    -- so are the members, the arms of a CASE and the value after ELSE
    pub AreBare : BoundExprs → Type 0
    AreBare no_expr = Unit {0}
    AreBare (one_expr e es) = IsBare e × AreBare es

    pub ArmsBare : BoundArms → Type 0
    ArmsBare no_arm = Unit {0}
    ArmsBare (one_arm when result as_) = IsBare when × IsBare result × ArmsBare as_

    pub ElseBare : BoundOtherwise → Type 0
    ElseBare Nothing = Unit {0}
    ElseBare (Value e) = IsBare e

  -- ---- an expression without its offsets is bare

  mutual
    pub without_bare : (e : BoundExpr) → AllByRecursion Q (columns e) → IsBare (without_offsets e)
    without_bare (Column id) h = h.0
    without_bare (Literal d) h = tt
    without_bare CurrentUser h = tt
    without_bare (Negate offset e) h = (refl, without_bare e h)
    without_bare (Arithmetic op offset e f) h = (refl, without_bare e (left_of Q (columns e) (columns f) h), without_bare f (right_of Q (columns e) (columns f) h))
    without_bare (Comparison op offset e f) h = (refl, without_bare e (left_of Q (columns e) (columns f) h), without_bare f (right_of Q (columns e) (columns f) h))
    without_bare (Between negated offset e low high) h =
        let rest = right_of Q (columns e) (columns low ++ columns high) h in
        (refl, without_bare e (left_of Q (columns e) (columns low ++ columns high) h), without_bare low (left_of Q (columns low) (columns high) rest), without_bare high (right_of Q (columns low) (columns high) rest))
    without_bare (In negated offset values e) h = (refl, without_bare e h)
    without_bare (IsNull negated offset e) h = (refl, without_bare e h)
    without_bare (Not offset e) h = (refl, without_bare e h)
    without_bare (And offset es) h = (refl, all_without es h)
    without_bare (Or offset es) h = (refl, all_without es h)
    without_bare (Cast offset to e) h = (refl, without_bare e h)
    without_bare (Case offset as_ o) h = (refl, arms_without as_ (left_of Q (arms_columns as_) (otherwise_columns o) h), else_without o (right_of Q (arms_columns as_) (otherwise_columns o) h))
    without_bare (CountStar offset) h = refl
    without_bare (Call f offset e) h = (refl, without_bare e h)

    all_without : (es : BoundExprs) → AllByRecursion Q (all_columns es) → AreBare (all_rebuilt without_offset es)
    all_without no_expr h = tt
    all_without (one_expr e es) h = (without_bare e (left_of Q (columns e) (all_columns es) h), all_without es (right_of Q (columns e) (all_columns es) h))

    arms_without : (as_ : BoundArms) → AllByRecursion Q (arms_columns as_) → ArmsBare (arms_rebuilt without_offset as_)
    arms_without no_arm h = tt
    arms_without (one_arm when result as_) h =
        let rest = right_of Q (columns when) (columns result ++ arms_columns as_) h in
        (without_bare when (left_of Q (columns when) (columns result ++ arms_columns as_) h), without_bare result (left_of Q (columns result) (arms_columns as_) rest), arms_without as_ (right_of Q (columns result) (arms_columns as_) rest))

    else_without : (o : BoundOtherwise) → AllByRecursion Q (otherwise_columns o) → ElseBare (otherwise_rebuilt without_offset o)
    else_without Nothing h = tt
    else_without (Value e) h = without_bare e h

  -- ---- the columns of a bare expression

  mutual
    pub columns_bare : (e : BoundExpr) → IsBare e → AllByRecursion Q (columns e)
    columns_bare (Column id) h = (h, tt)
    columns_bare (Literal d) h = tt
    columns_bare CurrentUser h = tt
    columns_bare (Negate offset e) h = columns_bare e h.1
    columns_bare (Arithmetic op offset e f) h = of_both Q (columns e) (columns f) (columns_bare e h.1) (columns_bare f h.2)
    columns_bare (Comparison op offset e f) h = of_both Q (columns e) (columns f) (columns_bare e h.1) (columns_bare f h.2)
    columns_bare (Between negated offset e low high) h =
        of_both Q (columns e) (columns low ++ columns high) (columns_bare e h.1) (of_both Q (columns low) (columns high) (columns_bare low h.2) (columns_bare high h.3))
    columns_bare (In negated offset values e) h = columns_bare e h.1
    columns_bare (IsNull negated offset e) h = columns_bare e h.1
    columns_bare (Not offset e) h = columns_bare e h.1
    columns_bare (And offset es) h = all_bare es h.1
    columns_bare (Or offset es) h = all_bare es h.1
    columns_bare (Cast offset to e) h = columns_bare e h.1
    columns_bare (Case offset as_ o) h = of_both Q (arms_columns as_) (otherwise_columns o) (arms_bare as_ h.1) (else_bare o h.2)
    columns_bare (CountStar offset) h = tt
    columns_bare (Call f offset e) h = columns_bare e h.1

    all_bare : (es : BoundExprs) → AreBare es → AllByRecursion Q (all_columns es)
    all_bare no_expr h = tt
    all_bare (one_expr e es) h = of_both Q (columns e) (all_columns es) (columns_bare e h.0) (all_bare es h.1)

    arms_bare : (as_ : BoundArms) → ArmsBare as_ → AllByRecursion Q (arms_columns as_)
    arms_bare no_arm h = tt
    arms_bare (one_arm when result as_) h =
        of_both Q (columns when) (columns result ++ arms_columns as_) (columns_bare when h.0) (of_both Q (columns result) (arms_columns as_) (columns_bare result h.1) (arms_bare as_ h.2))

    else_bare : (o : BoundOtherwise) → ElseBare o → AllByRecursion Q (otherwise_columns o)
    else_bare Nothing h = tt
    else_bare (Value e) h = columns_bare e h

  -- ---- NOT carried inward

  before_bare : (es rest : BoundExprs) → AreBare es → AreBare rest → AreBare (before es rest)
  before_bare no_expr rest h k = k
  before_bare (one_expr e es) rest h k = (h.0, before_bare es rest h.1 k)

  and_members_bare : (e : BoundExpr) → IsBare e → AreBare (and_members e)
  and_members_bare (And offset es) h = h.1
  and_members_bare _ h = (h, tt)

  or_members_bare : (e : BoundExpr) → IsBare e → AreBare (or_members e)
  or_members_bare (Or offset es) h = h.1
  or_members_bare _ h = (h, tt)

  and_before_bare : (e : BoundExpr) (rest : BoundExprs) → IsBare e → AreBare rest → AreBare (and_before e rest)
  and_before_bare e rest h k = before_bare (and_members e) rest (and_members_bare e h) k

  or_before_bare : (e : BoundExpr) (rest : BoundExprs) → IsBare e → AreBare rest → AreBare (or_before e rest)
  or_before_bare e rest h k = before_bare (or_members e) rest (or_members_bare e h) k

  mutual
    pub inward_bare : (e : BoundExpr) → IsBare e → IsBare (inward e)
    inward_bare (And offset es) h = (h.0, and_bare es h.1)
    inward_bare (Or offset es) h = (h.0, or_bare es h.1)
    inward_bare (Not offset e) h = not_bare e h.1
    inward_bare _ h = h

    not_bare : (e : BoundExpr) → IsBare e → IsBare (not_inward e)
    not_bare (And offset es) h = (h.0, not_or_bare es h.1)
    not_bare (Or offset es) h = (h.0, not_and_bare es h.1)
    not_bare (Not offset e) h = inward_bare e h.1
    not_bare (Comparison op offset e f) h = h
    not_bare (Between negated offset e low high) h = h
    not_bare (In negated offset values e) h = h
    not_bare (IsNull negated offset e) h = h
    not_bare (Literal d) h = tt
    not_bare _ h = (refl, h)

    and_bare : (es : BoundExprs) → AreBare es → AreBare (and_inward es)
    and_bare no_expr h = tt
    and_bare (one_expr e es) h = and_before_bare (inward e) (and_inward es) (inward_bare e h.0) (and_bare es h.1)

    or_bare : (es : BoundExprs) → AreBare es → AreBare (or_inward es)
    or_bare no_expr h = tt
    or_bare (one_expr e es) h = or_before_bare (inward e) (or_inward es) (inward_bare e h.0) (or_bare es h.1)

    not_and_bare : (es : BoundExprs) → AreBare es → AreBare (not_and_inward es)
    not_and_bare no_expr h = tt
    not_and_bare (one_expr e es) h = and_before_bare (not_inward e) (not_and_inward es) (not_bare e h.0) (not_and_bare es h.1)

    not_or_bare : (es : BoundExprs) → AreBare es → AreBare (not_or_inward es)
    not_or_bare no_expr h = tt
    not_or_bare (one_expr e es) h = or_before_bare (not_inward e) (not_or_inward es) (not_bare e h.0) (not_or_bare es h.1)

  -- ---- literals folded

  folded_node_bare : (e : BoundExpr) → IsBare e → IsBare (folded_node e)
  folded_node_bare e h = go (of_literals e) (value_alone e)
    where
      go : (b : Bool) (o : Option Datum) → IsBare (if b then literal_or e o else e)
      go true (Some d) = tt
      go true None = h
      go false o = h

  mutual
    pub folded_bare : (e : BoundExpr) → IsBare e → IsBare (folded e)
    folded_bare (Column id) h = folded_node_bare (Column id) h
    folded_bare (Literal d) h = folded_node_bare (Literal d) h
    folded_bare CurrentUser h = folded_node_bare CurrentUser h
    folded_bare (Negate offset e) h = folded_node_bare (Negate offset (folded e)) (h.0, folded_bare e h.1)
    folded_bare (Arithmetic op offset e f) h = folded_node_bare (Arithmetic op offset (folded e) (folded f)) (h.0, folded_bare e h.1, folded_bare f h.2)
    folded_bare (Comparison op offset e f) h = folded_node_bare (Comparison op offset (folded e) (folded f)) (h.0, folded_bare e h.1, folded_bare f h.2)
    folded_bare (Between negated offset e low high) h = folded_node_bare (Between negated offset (folded e) (folded low) (folded high)) (h.0, folded_bare e h.1, folded_bare low h.2, folded_bare high h.3)
    folded_bare (In negated offset values e) h = folded_node_bare (In negated offset values (folded e)) (h.0, folded_bare e h.1)
    folded_bare (IsNull negated offset e) h = folded_node_bare (IsNull negated offset (folded e)) (h.0, folded_bare e h.1)
    folded_bare (Not offset e) h = folded_node_bare (Not offset (folded e)) (h.0, folded_bare e h.1)
    folded_bare (And offset es) h = folded_node_bare (And offset (all_rebuilt folded_node es)) (h.0, all_folded es h.1)
    folded_bare (Or offset es) h = folded_node_bare (Or offset (all_rebuilt folded_node es)) (h.0, all_folded es h.1)
    folded_bare (Cast offset to e) h = folded_node_bare (Cast offset to (folded e)) (h.0, folded_bare e h.1)
    folded_bare (Case offset as_ o) h = folded_node_bare (Case offset (arms_rebuilt folded_node as_) (otherwise_rebuilt folded_node o)) (h.0, arms_folded as_ h.1, else_folded o h.2)
    folded_bare (CountStar offset) h = folded_node_bare (CountStar offset) h
    folded_bare (Call f offset e) h = folded_node_bare (Call f offset (folded e)) (h.0, folded_bare e h.1)

    all_folded : (es : BoundExprs) → AreBare es → AreBare (all_rebuilt folded_node es)
    all_folded no_expr h = tt
    all_folded (one_expr e es) h = (folded_bare e h.0, all_folded es h.1)

    arms_folded : (as_ : BoundArms) → ArmsBare as_ → ArmsBare (arms_rebuilt folded_node as_)
    arms_folded no_arm h = tt
    arms_folded (one_arm when result as_) h = (folded_bare when h.0, folded_bare result h.1, arms_folded as_ h.2)

    else_folded : (o : BoundOtherwise) → ElseBare o → ElseBare (otherwise_rebuilt folded_node o)
    else_folded Nothing h = tt
    else_folded (Value e) h = folded_bare e h

  -- ---- the sides of an equality

  pub sides_bare : (e : BoundExpr) (p : ColumnId × ColumnId) → column_sides e ≡ Some p → IsBare e → Q p.0 × Q p.1
  sides_bare (Comparison Equal offset (Column a) (Column b)) p h k = let same : (a, b) ≡ p = some_pair (a, b) p h in subst (λ (q : ColumnId × ColumnId). Q q.0 × Q q.1) same (k.1, k.2)
    where
      some_pair : (q r : ColumnId × ColumnId) → ◌≡◌ {A = Option (ColumnId × ColumnId)} (Some q) (Some r) → q ≡ r
      some_pair q r e = cc
  sides_bare _ p h k = absurd (cc)
