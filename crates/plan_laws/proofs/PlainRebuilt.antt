-- Plain conditions stay plain without their offsets, and with their literals folded.
use Rattle.std.proofs.Common.{◌≡◌, Bool, true, false, ◌&&◌, List, [], Option, Some, None, Result, Ok, Err, if◌then◌else◌, refl}
use Rattle.value.specs.Datum.{Datum, null, bool}
use Rattle.value.specs.Conditions.{truth_at, at_truth}
use Rattle.value.specs.Truths.{negated}
use Rattle.value.specs.declared.order.Truth.{Truth}
use Rattle.value.specs.declared.order.Truth.TheVariants.{False, Unknown, True}
use Rattle.value.specs.declared.faults.Fault.{Fault}
use Rattle.value.specs.declared.operators.Comparison as operators
use Rattle.expr.specs.declared.bound.ColumnId.{ColumnId}
use Rattle.expr.specs.Bound.{BoundExpr, Column, Literal, CurrentUser, Negate, Arithmetic, Comparison, Between, In, IsNull, Not, And, Or, Cast, Case, CountStar, Call, BoundExprs, no_expr, one_expr, BoundArms, no_arm, one_arm, BoundOtherwise, Nothing, Value}
use Rattle.eval.specs.Operators.{comparison_of, between_of, in_of, null_test, negated_if}
use Rattle.eval.specs.Meaning.{Outcome, meaning, conjunction, disjunction, chosen, otherwise, comparison, between, membership, null_check, logical_not, condition, as_datum, when_true}
use Rattle.predicates.proofs.Movables.{and_left, and_right}
use Rattle.predicates.specs.Rebuilt.{rebuilt, all_rebuilt, arms_rebuilt, otherwise_rebuilt}
use Rattle.predicates.specs.Folded.{is_literal, are_literal_arms, is_literal_otherwise, of_literals, nothing, ok_value, value_alone, literal_or, folded_node, folded}
use Rattle.predicates.specs.Offsets.{without_offset, without_offsets}
use Rattle.plan_laws.proofs.Plain.{is_and, is_or, AreSome, AreTwo, AreArms, IsPlain, ArePlain, ArmsPlain, ElsePlain}

-- ---- an expression made anew

module _ (at : BoundExpr → BoundExpr) where
  some_kept : (es : BoundExprs) → AreSome es → AreSome (all_rebuilt at es)
  some_kept no_expr h = h
  some_kept (one_expr e es) h = tt

  two_kept : (es : BoundExprs) → AreTwo es → AreTwo (all_rebuilt at es)
  two_kept no_expr h = h
  two_kept (one_expr e es) h = some_kept es h

  some_arms_kept : (as_ : BoundArms) → AreArms as_ → AreArms (arms_rebuilt at as_)
  some_arms_kept no_arm h = h
  some_arms_kept (one_arm when result as_) h = tt

  and_kept : ((e : BoundExpr) → is_and e ≡ false → is_and (at e) ≡ false) → (e : BoundExpr) → is_and e ≡ false → is_and (rebuilt at e) ≡ false
  and_kept stays (And offset es) h = absurd (cc)
  and_kept stays e h = stays _ refl

  or_kept : ((e : BoundExpr) → is_or e ≡ false → is_or (at e) ≡ false) → (e : BoundExpr) → is_or e ≡ false → is_or (rebuilt at e) ≡ false
  or_kept stays (Or offset es) h = absurd (cc)
  or_kept stays e h = stays _ refl

module _ (P : ColumnId → Type 0) (Q : Datum → Type 0) where
  module _ (at : BoundExpr → BoundExpr) (stays : (e : BoundExpr) → IsPlain P Q e → IsPlain P Q (at e)) (no_and : (e : BoundExpr) → is_and e ≡ false → is_and (at e) ≡ false) (no_or : (e : BoundExpr) → is_or e ≡ false → is_or (at e) ≡ false) where
    mutual
      pub plain_kept : (e : BoundExpr) → IsPlain P Q e → IsPlain P Q (rebuilt at e)
      plain_kept (Column id) h = stays _ h
      plain_kept (Literal d) h = stays _ h
      plain_kept CurrentUser h = stays _ h
      plain_kept (Negate offset e) h = absurd h
      plain_kept (Arithmetic op offset e f) h = absurd h
      plain_kept (Comparison op offset e f) h = stays (Comparison op offset (rebuilt at e) (rebuilt at f)) (plain_kept e h.0, plain_kept f h.1)
      plain_kept (Between negated offset e low high) h = stays (Between negated offset (rebuilt at e) (rebuilt at low) (rebuilt at high)) (plain_kept e h.0, plain_kept low h.1, plain_kept high h.2)
      plain_kept (In negated offset values e) h = stays (In negated offset values (rebuilt at e)) (h.0, h.1, plain_kept e h.2)
      plain_kept (IsNull negated offset e) h = stays (IsNull negated offset (rebuilt at e)) (plain_kept e h)
      plain_kept (Not offset e) h = stays (Not offset (rebuilt at e)) (plain_kept e h)
      plain_kept (And offset es) h = stays (And offset (all_rebuilt at es)) (two_kept at es h.0, ands_kept es h.1)
      plain_kept (Or offset es) h = stays (Or offset (all_rebuilt at es)) (two_kept at es h.0, ors_kept es h.1)
      plain_kept (Cast offset to e) h = absurd h
      plain_kept (Case offset as_ o) h = stays (Case offset (arms_rebuilt at as_) (otherwise_rebuilt at o)) (some_arms_kept at as_ h.0, arms_kept as_ h.1, else_kept o h.2)
      plain_kept (CountStar offset) h = absurd h
      plain_kept (Call f offset e) h = absurd h

      ands_kept : (es : BoundExprs) → ArePlain P Q is_and es → ArePlain P Q is_and (all_rebuilt at es)
      ands_kept no_expr h = tt
      ands_kept (one_expr e es) h = (and_kept at no_and e h.0, plain_kept e h.1, ands_kept es h.2)

      ors_kept : (es : BoundExprs) → ArePlain P Q is_or es → ArePlain P Q is_or (all_rebuilt at es)
      ors_kept no_expr h = tt
      ors_kept (one_expr e es) h = (or_kept at no_or e h.0, plain_kept e h.1, ors_kept es h.2)

      arms_kept : (as_ : BoundArms) → ArmsPlain P Q as_ → ArmsPlain P Q (arms_rebuilt at as_)
      arms_kept no_arm h = tt
      arms_kept (one_arm when result as_) h = (plain_kept when h.0, plain_kept result h.1, arms_kept as_ h.2)

      else_kept : (o : BoundOtherwise) → ElsePlain P Q o → ElsePlain P Q (otherwise_rebuilt at o)
      else_kept Nothing h = tt
      else_kept (Value e) h = plain_kept e h

  -- ---- without offsets

  without_plain : (e : BoundExpr) → IsPlain P Q e → IsPlain P Q (without_offset e)
  without_plain (Column id) h = h
  without_plain (Literal d) h = h
  without_plain CurrentUser h = h
  without_plain (Negate offset e) h = h
  without_plain (Arithmetic op offset e f) h = h
  without_plain (Comparison op offset e f) h = h
  without_plain (Between negated offset e low high) h = h
  without_plain (In negated offset values e) h = h
  without_plain (IsNull negated offset e) h = h
  without_plain (Not offset e) h = h
  without_plain (And offset es) h = h
  without_plain (Or offset es) h = h
  without_plain (Cast offset to e) h = h
  without_plain (Case offset as_ o) h = h
  without_plain (CountStar offset) h = h
  without_plain (Call f offset e) h = h

  without_and : (e : BoundExpr) → is_and e ≡ false → is_and (without_offset e) ≡ false
  without_and (And offset es) h = h
  without_and e h = refl

  without_or : (e : BoundExpr) → is_or e ≡ false → is_or (without_offset e) ≡ false
  without_or (Or offset es) h = h
  without_or e h = refl

  pub without_offsets_plain : (e : BoundExpr) → IsPlain P Q e → IsPlain P Q (without_offsets e)
  without_offsets_plain e h = plain_kept without_offset without_plain without_and without_or e h

  -- ---- literals folded

  module _ (unknown : Q null) (truth : (b : Bool) → Q (bool b)) where
    pub truth_value : (t : Truth) → Q (at_truth t)
    truth_value False = truth false
    truth_value Unknown = unknown
    truth_value True = truth true

    -- the fact is known of the value, if there is one
    abbrev Gives : Outcome → Type 0
    Gives (Ok d) = Q d
    Gives (Err fault) = Unit {0}

    compared : (op : operators.Comparison) (m n : Outcome) → Gives (comparison op m n)
    compared op (Ok x) (Ok y) = truth_value (comparison_of op x y)
    compared op (Ok x) (Err fault) = tt
    compared op (Err fault) n = tt

    ranged : (not_ : Bool) (m low high : Outcome) → Gives (between not_ m low high)
    ranged not_ (Ok x) (Ok y) (Ok z) = truth_value (negated_if not_ (between_of x y z))
    ranged not_ (Ok x) (Ok y) (Err fault) = tt
    ranged not_ (Ok x) (Err fault) high = tt
    ranged not_ (Err fault) low high = tt

    listed : (not_ : Bool) (m : Outcome) (values : List Datum) → Gives (membership not_ m values)
    listed not_ (Ok x) values = truth_value (negated_if not_ (in_of x values))
    listed not_ (Err fault) values = tt

    tested : (not_ : Bool) (m : Outcome) → Gives (null_check not_ m)
    tested not_ (Ok x) = truth_value (negated_if not_ (null_test x))
    tested not_ (Err fault) = tt

    inverted : (m : Outcome) → Gives (logical_not m)
    inverted (Ok x) = truth_value (negated (truth_at x))
    inverted (Err fault) = tt

    connected : (r : Result Truth Fault) → Gives (as_datum r)
    connected (Ok t) = truth_value t
    connected (Err fault) = tt

    literal_gives : (e : BoundExpr) → is_literal e ≡ true → IsPlain P Q e → Gives (meaning nothing [] e)
    literal_gives (Literal d) k h = h
    literal_gives _ k h = absurd (cc)

    one_chosen : (c : Result Truth Fault) (m n : Outcome) → Gives m → Gives n → Gives (when_true c m n)
    one_chosen (Ok True) m n p q = p
    one_chosen (Ok Unknown) m n p q = q
    one_chosen (Ok False) m n p q = q
    one_chosen (Err fault) m n p q = tt

    arms_give : (as_ : BoundArms) (rest : Outcome) → are_literal_arms as_ ≡ true → ArmsPlain P Q as_ → Gives rest → Gives (chosen nothing [] as_ rest)
    arms_give no_arm rest k h r = r
    arms_give (one_arm when result as_) rest k h r =
        let p = and_left (is_literal when && is_literal result) (are_literal_arms as_) k in
        let q = and_right (is_literal when && is_literal result) (are_literal_arms as_) k in
        one_chosen (condition (meaning nothing [] when)) (meaning nothing [] result) (chosen nothing [] as_ rest)
        (literal_gives result (and_right (is_literal when) (is_literal result) p) h.1) (arms_give as_ rest q h.2 r)

    else_gives : (o : BoundOtherwise) → is_literal_otherwise o ≡ true → ElsePlain P Q o → Gives (otherwise nothing [] o)
    else_gives Nothing k h = unknown
    else_gives (Value e) k h = literal_gives e k h

    gives : (e : BoundExpr) → of_literals e ≡ true → IsPlain P Q e → Gives (meaning nothing [] e)
    gives (Column id) k h = absurd (cc)
    gives (Literal d) k h = absurd (cc)
    gives CurrentUser k h = absurd (cc)
    gives (Negate offset e) k h = absurd h
    gives (Arithmetic op offset e f) k h = absurd h
    gives (Comparison op offset e f) k h = compared op (meaning nothing [] e) (meaning nothing [] f)
    gives (Between negated offset e low high) k h = ranged negated (meaning nothing [] e) (meaning nothing [] low) (meaning nothing [] high)
    gives (In negated offset values e) k h = listed negated (meaning nothing [] e) values
    gives (IsNull negated offset e) k h = tested negated (meaning nothing [] e)
    gives (Not offset e) k h = inverted (meaning nothing [] e)
    gives (And offset es) k h = connected (conjunction nothing [] es)
    gives (Or offset es) k h = connected (disjunction nothing [] es)
    gives (Cast offset to e) k h = absurd h
    gives (Case offset as_ o) k h =
        arms_give as_ (otherwise nothing [] o) (and_left (are_literal_arms as_) (is_literal_otherwise o) k) h.1 (else_gives o (and_right (are_literal_arms as_) (is_literal_otherwise o) k) h.2)
    gives (CountStar offset) k h = absurd h
    gives (Call f offset e) k h = absurd h

    of_value : (m : Outcome) (e : BoundExpr) → IsPlain P Q e → Gives m → IsPlain P Q (literal_or e (ok_value m))
    of_value (Ok d) e h g = g
    of_value (Err fault) e h g = h

    node_plain : (e : BoundExpr) → IsPlain P Q e → IsPlain P Q (folded_node e)
    node_plain e h = go (of_literals e) refl
      where
        go : (b : Bool) → of_literals e ≡ b → IsPlain P Q (if b then literal_or e (value_alone e) else e)
        go true k = of_value (meaning nothing [] e) e h (gives e k h)
        go false k = h

    either_and : (b : Bool) (o : Option Datum) (e : BoundExpr) → is_and e ≡ false → is_and (if b then literal_or e o else e) ≡ false
    either_and true (Some d) e h = refl
    either_and true None e h = h
    either_and false o e h = h

    either_or : (b : Bool) (o : Option Datum) (e : BoundExpr) → is_or e ≡ false → is_or (if b then literal_or e o else e) ≡ false
    either_or true (Some d) e h = refl
    either_or true None e h = h
    either_or false o e h = h

    pub folded_plain : (e : BoundExpr) → IsPlain P Q e → IsPlain P Q (folded e)
    folded_plain e h = plain_kept folded_node node_plain (λ f k. either_and (of_literals f) (value_alone f) f k) (λ f k. either_or (of_literals f) (value_alone f) f k) e h
