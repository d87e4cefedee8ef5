-- Plain conditions stay plain with NOT carried inward.
use Rattle.std.proofs.Common.{ℕ, Bool, refl}
use Rattle.value.specs.Datum.{Datum, null, bool}
use Rattle.value.specs.Conditions.{truth_at}
use Rattle.value.specs.Truths.{negated}
use Rattle.expr.specs.declared.bound.ColumnId.{ColumnId}
use Rattle.expr.specs.Bound.{BoundExpr, Literal, Not, And, Or, BoundExprs, no_expr, one_expr}
use Rattle.predicates.specs.Inward.{before, and_members, or_members, and_before, or_before, inward, not_inward, and_inward, or_inward, not_and_inward, not_or_inward}
use Rattle.plan_laws.proofs.Plain.{is_and, is_or, AreSome, AreTwo, IsPlain, ArePlain}
use Rattle.plan_laws.proofs.PlainRebuilt.{truth_value}

-- ---- one list before another

some_first : (es fs : BoundExprs) → AreSome es → AreSome (before es fs)
some_first no_expr fs h = absurd h
some_first (one_expr e es) fs h = tt

some_last : (es fs : BoundExprs) → AreSome fs → AreSome (before es fs)
some_last no_expr fs h = h
some_last (one_expr e es) fs h = tt

two_of : (es fs : BoundExprs) → AreSome es → AreSome fs → AreTwo (before es fs)
two_of no_expr fs h k = absurd h
two_of (one_expr e es) fs h k = some_last es fs k

some_of_two : (es : BoundExprs) → AreTwo es → AreSome es
some_of_two no_expr h = h
some_of_two (one_expr e es) h = tt

module _ (P : ColumnId → Type 0) (Q : Datum → Type 0) where
  plain_before : (merged : BoundExpr → Bool) (es fs : BoundExprs) → ArePlain P Q merged es → ArePlain P Q merged fs → ArePlain P Q merged (before es fs)
  plain_before merged no_expr fs h k = k
  plain_before merged (one_expr e es) fs h k = (h.0, h.1, plain_before merged es fs h.2 k)

  -- ---- the members of an expression

  some_ands : (e : BoundExpr) → IsPlain P Q e → AreSome (and_members e)
  some_ands (And offset es) h = some_of_two es h.0
  some_ands e h = tt

  some_ors : (e : BoundExpr) → IsPlain P Q e → AreSome (or_members e)
  some_ors (Or offset es) h = some_of_two es h.0
  some_ors e h = tt

  plain_ands : (e : BoundExpr) → IsPlain P Q e → ArePlain P Q is_and (and_members e)
  plain_ands (And offset es) h = h.1
  plain_ands e h = (refl, h, tt)

  plain_ors : (e : BoundExpr) → IsPlain P Q e → ArePlain P Q is_or (or_members e)
  plain_ors (Or offset es) h = h.1
  plain_ors e h = (refl, h, tt)

  -- ---- members in place of members

  -- plain members, as many at least as matters
  record AreCarried (merged : BoundExpr → Bool) (es fs : BoundExprs) : Type 0 where
    plain : ArePlain P Q merged fs
    some : AreSome es → AreSome fs
    two : AreTwo es → AreTwo fs

  none_carried : (merged : BoundExpr → Bool) → AreCarried merged no_expr no_expr
  none_carried merged = record { plain = tt; some = λ h. h; two = λ h. h }

  and_carried : (e f : BoundExpr) (es fs : BoundExprs) → IsPlain P Q f → AreCarried is_and es fs → AreCarried is_and (one_expr e es) (and_before f fs)
  and_carried e f es fs h c = record {
    plain = plain_before is_and (and_members f) fs (plain_ands f h) c.plain;
    some = λ k. some_first (and_members f) fs (some_ands f h);
    two = λ k. two_of (and_members f) fs (some_ands f h) (c.some k);
  }

  or_carried : (e f : BoundExpr) (es fs : BoundExprs) → IsPlain P Q f → AreCarried is_or es fs → AreCarried is_or (one_expr e es) (or_before f fs)
  or_carried e f es fs h c = record {
    plain = plain_before is_or (or_members f) fs (plain_ors f h) c.plain;
    some = λ k. some_first (or_members f) fs (some_ors f h);
    two = λ k. two_of (or_members f) fs (some_ors f h) (c.some k);
  }

  all_and : (offset : ℕ) (es fs : BoundExprs) → AreTwo es → AreCarried is_and es fs → IsPlain P Q (And offset fs)
  all_and offset es fs h c = (c.two h, c.plain)

  all_or : (offset : ℕ) (es fs : BoundExprs) → AreTwo es → AreCarried is_or es fs → IsPlain P Q (Or offset fs)
  all_or offset es fs h c = (c.two h, c.plain)

  -- ---- NOT carried inward

  module _ (unknown : Q null) (truth : (b : Bool) → Q (bool b)) where
    mutual
      pub inward_plain : (e : BoundExpr) → IsPlain P Q e → IsPlain P Q (inward e)
      inward_plain (And offset es) h = all_and offset es (and_inward es) h.0 (ands es h.1)
      inward_plain (Or offset es) h = all_or offset es (or_inward es) h.0 (ors es h.1)
      inward_plain (Not offset e) h = not_plain e h
      inward_plain e h = h

      not_plain : (e : BoundExpr) → IsPlain P Q e → IsPlain P Q (not_inward e)
      not_plain (And offset es) h = all_or offset es (not_or_inward es) h.0 (not_ors is_and es h.1)
      not_plain (Or offset es) h = all_and offset es (not_and_inward es) h.0 (not_ands is_or es h.1)
      not_plain (Not offset e) h = inward_plain e h
      not_plain (Literal d) h = truth_value P Q unknown truth (negated (truth_at d))
      not_plain e h = h

      ands : (es : BoundExprs) → ArePlain P Q is_and es → AreCarried is_and es (and_inward es)
      ands no_expr h = none_carried is_and
      ands (one_expr e es) h = and_carried e (inward e) es (and_inward es) (inward_plain e h.1) (ands es h.2)

      ors : (es : BoundExprs) → ArePlain P Q is_or es → AreCarried is_or es (or_inward es)
      ors no_expr h = none_carried is_or
      ors (one_expr e es) h = or_carried e (inward e) es (or_inward es) (inward_plain e h.1) (ors es h.2)

      -- of the NOTs
      not_ands : (merged : BoundExpr → Bool) (es : BoundExprs) → ArePlain P Q merged es → AreCarried is_and es (not_and_inward es)
      not_ands merged no_expr h = none_carried is_and
      not_ands merged (one_expr e es) h = and_carried e (not_inward e) es (not_and_inward es) (not_plain e h.1) (not_ands merged es h.2)

      not_ors : (merged : BoundExpr → Bool) (es : BoundExprs) → ArePlain P Q merged es → AreCarried is_or es (not_or_inward es)
      not_ors merged no_expr h = none_carried is_or
      not_ors merged (one_expr e es) h = or_carried e (not_inward e) es (not_or_inward es) (not_plain e h.1) (not_ors merged es h.2)
