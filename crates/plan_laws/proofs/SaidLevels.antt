-- The levels of a condition's text: no more without offsets, with NOT carried inward, and with the literals folded.
use Rattle.std.proofs.Common.{ℕ, suc, max, ◌≤◌, Bool, true, false, Option, Some, None, List, if◌then◌else◌, arith}
use Rattle.value.specs.Datum.{Datum}
use Rattle.expr.specs.Bound.{BoundExpr, Column, Literal, CurrentUser, Negate, Arithmetic, Comparison, Between, In, IsNull, Not, And, Or, Cast, Case, CountStar, Call, BoundExprs, no_expr, one_expr, BoundArms, no_arm, one_arm, BoundOtherwise, Nothing, Value}
use Rattle.scope.specs.Entry.{Entry}
use Rattle.expr_texts.specs.Filters.{levels, most_levels, arms_levels, else_levels}
use Rattle.bound_plans.specs.Named.{named, named_members, named_arms, named_otherwise}
use Rattle.predicates.specs.Rebuilt.{rebuilt, all_rebuilt, arms_rebuilt, otherwise_rebuilt}
use Rattle.predicates.specs.Folded.{of_literals, value_alone, literal_or, folded_node, folded}
use Rattle.predicates.specs.Offsets.{without_offset, without_offsets}
use Rattle.predicates.specs.Inward.{before, and_members, or_members, and_before, or_before, inward, not_inward, and_inward, or_inward, not_and_inward, not_or_inward}

-- ---- numbers

itself : (n : ℕ) → n ≤ n
itself n = omega arith

through : (a b c : ℕ) → a ≤ b → b ≤ c → a ≤ c
through a b c p q = omega arith

one_more : (a b : ℕ) → a ≤ b → suc a ≤ suc b
one_more a b p = omega arith

larger : (a b c d : ℕ) → a ≤ c → b ≤ d → max a b ≤ max c d
larger a b c d p q = omega arith

more : (n : ℕ) → n ≤ suc n
more n = omega arith

two_more : (n : ℕ) → n ≤ suc (suc n)
two_more n = omega arith

four_more : (a b : ℕ) → a ≤ b → a ≤ suc (suc (suc (suc b)))
four_more a b p = omega arith

of_one : (n : ℕ) → max n 0 ≤ n
of_one n = omega arith

of_none : (n : ℕ) → n ≤ max 0 n
of_none n = omega arith

one_first : (a b c d : ℕ) → d ≤ max b c → max a d ≤ max (max a b) c
one_first a b c d p = omega arith

both_parts : (x a b c d : ℕ) → x ≤ max a b → a ≤ c → b ≤ d → x ≤ max c d
both_parts x a b c d h p q = omega arith

suc_both : (x a b : ℕ) → x ≤ max (suc (suc a)) (suc (suc b)) → x ≤ suc (suc (max a b))
suc_both x a b h = omega arith

nothing_least : (n : ℕ) → 0 ≤ n
nothing_least n = omega arith

module _ (entries : List Entry) where
  -- the levels of the text of a condition, and the most of members, of arms and of an ELSE
  abbrev deep : BoundExpr → ℕ
  deep e = levels (named entries e)

  abbrev all_deep : BoundExprs → ℕ
  all_deep es = most_levels (named_members entries es)

  abbrev arms_deep : BoundArms → ℕ
  arms_deep as_ = arms_levels (named_arms entries as_)

  abbrev else_deep : BoundOtherwise → ℕ
  else_deep o = else_levels (named_otherwise entries o)

  -- ---- an expression made anew

  module _ (at : BoundExpr → BoundExpr) (no_more : (e : BoundExpr) → deep (at e) ≤ deep e) where
    then_at : (e : BoundExpr) (n : ℕ) → deep e ≤ n → deep (at e) ≤ n
    then_at e n h = through (deep (at e)) (deep e) n (no_more e) h

    mutual
      pub deep_kept : (e : BoundExpr) → deep (rebuilt at e) ≤ deep e
      deep_kept (Column id) = no_more (Column id)
      deep_kept (Literal d) = no_more (Literal d)
      deep_kept CurrentUser = no_more CurrentUser
      deep_kept (Negate offset e) = no_more (Negate offset (rebuilt at e))
      deep_kept (Arithmetic op offset e f) = no_more (Arithmetic op offset (rebuilt at e) (rebuilt at f))
      deep_kept (Comparison op offset e f) =
          then_at (Comparison op offset (rebuilt at e) (rebuilt at f)) (deep (Comparison op offset e f)) (one_more _ _ (larger _ _ _ _ (deep_kept e) (deep_kept f)))
      deep_kept (Between negated offset e low high) =
          then_at (Between negated offset (rebuilt at e) (rebuilt at low) (rebuilt at high)) (deep (Between negated offset e low high)) (one_more _ _ (larger _ _ _ _ (deep_kept e) (larger _ _ _ _ (deep_kept low) (deep_kept high))))
      deep_kept (In negated offset values e) = then_at (In negated offset values (rebuilt at e)) (deep (In negated offset values e)) (one_more _ _ (larger 1 _ 1 _ (itself 1) (deep_kept e)))
      deep_kept (IsNull negated offset e) = then_at (IsNull negated offset (rebuilt at e)) (deep (IsNull negated offset e)) (one_more _ _ (deep_kept e))
      deep_kept (Not offset e) = then_at (Not offset (rebuilt at e)) (deep (Not offset e)) (one_more _ _ (one_more _ _ (deep_kept e)))
      deep_kept (And offset es) = then_at (And offset (all_rebuilt at es)) (deep (And offset es)) (one_more _ _ (all_deep_kept es))
      deep_kept (Or offset es) = then_at (Or offset (all_rebuilt at es)) (deep (Or offset es)) (one_more _ _ (all_deep_kept es))
      deep_kept (Cast offset to e) = no_more (Cast offset to (rebuilt at e))
      deep_kept (Case offset as_ o) =
          then_at (Case offset (arms_rebuilt at as_) (otherwise_rebuilt at o)) (deep (Case offset as_ o)) (one_more _ _ (one_more _ _ (larger _ _ _ _ (arms_deep_kept as_) (else_deep_kept o))))
      deep_kept (CountStar offset) = no_more (CountStar offset)
      deep_kept (Call f offset e) = no_more (Call f offset (rebuilt at e))

      all_deep_kept : (es : BoundExprs) → all_deep (all_rebuilt at es) ≤ all_deep es
      all_deep_kept no_expr = itself 0
      all_deep_kept (one_expr e es) = larger _ _ _ _ (deep_kept e) (all_deep_kept es)

      arms_deep_kept : (as_ : BoundArms) → arms_deep (arms_rebuilt at as_) ≤ arms_deep as_
      arms_deep_kept no_arm = itself 0
      arms_deep_kept (one_arm when result as_) = larger _ _ _ _ (deep_kept when) (larger _ _ _ _ (deep_kept result) (arms_deep_kept as_))

      else_deep_kept : (o : BoundOtherwise) → else_deep (otherwise_rebuilt at o) ≤ else_deep o
      else_deep_kept Nothing = itself 0
      else_deep_kept (Value e) = deep_kept e

  without_levels : (e : BoundExpr) → deep (without_offset e) ≤ deep e
  without_levels (Column id) = itself (deep (Column id))
  without_levels (Literal d) = itself (deep (Literal d))
  without_levels CurrentUser = itself (deep CurrentUser)
  without_levels (Negate offset e) = itself (deep (Negate offset e))
  without_levels (Arithmetic op offset e f) = itself (deep (Arithmetic op offset e f))
  without_levels (Comparison op offset e f) = itself (deep (Comparison op offset e f))
  without_levels (Between negated offset e low high) = itself (deep (Between negated offset e low high))
  without_levels (In negated offset values e) = itself (deep (In negated offset values e))
  without_levels (IsNull negated offset e) = itself (deep (IsNull negated offset e))
  without_levels (Not offset e) = itself (deep (Not offset e))
  without_levels (And offset es) = itself (deep (And offset es))
  without_levels (Or offset es) = itself (deep (Or offset es))
  without_levels (Cast offset to e) = itself (deep (Cast offset to e))
  without_levels (Case offset as_ o) = itself (deep (Case offset as_ o))
  without_levels (CountStar offset) = itself (deep (CountStar offset))
  without_levels (Call f offset e) = itself (deep (Call f offset e))

  pub without_offsets_levels : (e : BoundExpr) → deep (without_offsets e) ≤ deep e
  without_offsets_levels e = deep_kept without_offset without_levels e

  either_levels : (b : Bool) (o : Option Datum) (e : BoundExpr) → deep (if b then literal_or e o else e) ≤ deep e
  either_levels true (Some d) e = nothing_least (deep e)
  either_levels true None e = itself (deep e)
  either_levels false o e = itself (deep e)

  pub folded_levels : (e : BoundExpr) → deep (folded e) ≤ deep e
  folded_levels e = deep_kept folded_node (λ f. either_levels (of_literals f) (value_alone f) f) e

  -- ---- NOT carried inward

  before_levels : (es fs : BoundExprs) → all_deep (before es fs) ≤ max (all_deep es) (all_deep fs)
  before_levels no_expr fs = of_none (all_deep fs)
  before_levels (one_expr e es) fs = one_first (deep e) (all_deep es) (all_deep fs) (all_deep (before es fs)) (before_levels es fs)

  and_levels : (e : BoundExpr) → all_deep (and_members e) ≤ deep e
  and_levels (And offset es) = more (all_deep es)
  and_levels e = of_one (deep e)

  or_levels : (e : BoundExpr) → all_deep (or_members e) ≤ deep e
  or_levels (Or offset es) = more (all_deep es)
  or_levels e = of_one (deep e)

  and_first : (e : BoundExpr) (es : BoundExprs) (m n : ℕ) → deep e ≤ m → all_deep es ≤ n → all_deep (and_before e es) ≤ max m n
  and_first e es m n h k = both_parts (all_deep (and_before e es)) (all_deep (and_members e)) (all_deep es) m n (before_levels (and_members e) es) (through (all_deep (and_members e)) (deep e) m (and_levels e) h) k

  or_first : (e : BoundExpr) (es : BoundExprs) (m n : ℕ) → deep e ≤ m → all_deep es ≤ n → all_deep (or_before e es) ≤ max m n
  or_first e es m n h k = both_parts (all_deep (or_before e es)) (all_deep (or_members e)) (all_deep es) m n (before_levels (or_members e) es) (through (all_deep (or_members e)) (deep e) m (or_levels e) h) k

  mutual
    pub inward_levels : (e : BoundExpr) → deep (inward e) ≤ deep e
    inward_levels (And offset es) = one_more _ _ (ands_levels es)
    inward_levels (Or offset es) = one_more _ _ (ors_levels es)
    inward_levels (Not offset e) = not_levels e
    inward_levels e = itself (deep e)

    -- NOT takes two levels
    not_levels : (e : BoundExpr) → deep (not_inward e) ≤ suc (suc (deep e))
    not_levels (And offset es) = one_more _ _ (not_ors_levels es)
    not_levels (Or offset es) = one_more _ _ (not_ands_levels es)
    not_levels (Not offset e) = four_more (deep (inward e)) (deep e) (inward_levels e)
    not_levels (Comparison op offset e f) = two_more (deep (Comparison op offset e f))
    not_levels (Between negated offset e low high) = two_more (deep (Between negated offset e low high))
    not_levels (In negated offset values e) = two_more (deep (In negated offset values e))
    not_levels (IsNull negated offset e) = two_more (deep (IsNull negated offset e))
    not_levels (Literal d) = nothing_least 2
    not_levels e = itself (suc (suc (deep e)))

    ands_levels : (es : BoundExprs) → all_deep (and_inward es) ≤ all_deep es
    ands_levels no_expr = itself 0
    ands_levels (one_expr e es) = and_first (inward e) (and_inward es) (deep e) (all_deep es) (inward_levels e) (ands_levels es)

    ors_levels : (es : BoundExprs) → all_deep (or_inward es) ≤ all_deep es
    ors_levels no_expr = itself 0
    ors_levels (one_expr e es) = or_first (inward e) (or_inward es) (deep e) (all_deep es) (inward_levels e) (ors_levels es)

    not_ands_levels : (es : BoundExprs) → all_deep (not_and_inward es) ≤ suc (suc (all_deep es))
    not_ands_levels no_expr = nothing_least 2
    not_ands_levels (one_expr e es) =
        suc_both (all_deep (not_and_inward (one_expr e es))) (deep e) (all_deep es) (and_first (not_inward e) (not_and_inward es) (suc (suc (deep e))) (suc (suc (all_deep es))) (not_levels e) (not_ands_levels es))

    not_ors_levels : (es : BoundExprs) → all_deep (not_or_inward es) ≤ suc (suc (all_deep es))
    not_ors_levels no_expr = nothing_least 2
    not_ors_levels (one_expr e es) =
        suc_both (all_deep (not_or_inward (one_expr e es))) (deep e) (all_deep es) (or_first (not_inward e) (not_or_inward es) (suc (suc (deep e))) (suc (suc (all_deep es))) (not_levels e) (not_ors_levels es))
