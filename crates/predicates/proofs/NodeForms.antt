-- The forms of a node keep its movability and its value.
use Rattle.std.proofs.Common.{◌≡◌, ◌∙◌, sym, ap, ap₂, refl, ℕ, [], Bool, true, false, ◌&&◌, List, Option, Some, None, Ok, Err, if◌then◌else◌}
use Rattle.value.specs.Datum.{Datum}
use Rattle.expr.specs.Movable.{movable}
use Rattle.expr.specs.Bound.{BoundExpr, Column, Literal, CurrentUser, Negate, Arithmetic, Comparison, Between, In, IsNull, Not, And, Or, Cast, Case, CountStar, Call, BoundExprs, no_expr, one_expr, BoundArms, no_arm, one_arm, BoundOtherwise, Nothing, Value}
use Rattle.eval.specs.Meaning.{Cells, Outcome, meaning}
use Rattle.eval.specs.Meaning.{chosen, otherwise, conjunction, disjunction, negation, arithmetic, comparison, between, membership, null_check, logical_not, cast_at, as_datum, condition, unless_false, unless_true, when_true}
use Rattle.eval.proofs.Movables.{and_left, and_right}
use Rattle.predicates.specs.Folded.{is_literal, are_literals, are_literal_arms, is_literal_otherwise, of_literals, nothing, ok_value, value_alone, literal_or, folded_node}
use Rattle.predicates.specs.Offsets.{without_offset}

pub without_offset_movable : (e : BoundExpr) → movable e ≡ true → movable (without_offset e) ≡ true
without_offset_movable (Column id) h = h
without_offset_movable (Literal d) h = h
without_offset_movable CurrentUser h = h
without_offset_movable (Negate offset e) h = h
without_offset_movable (Arithmetic op offset e f) h = h
without_offset_movable (Comparison op offset e f) h = h
without_offset_movable (Between negated offset e low high) h = h
without_offset_movable (In negated offset values e) h = h
without_offset_movable (IsNull negated offset e) h = h
without_offset_movable (Not offset e) h = h
without_offset_movable (And offset es) h = h
without_offset_movable (Or offset es) h = h
without_offset_movable (Cast offset to e) h = h
without_offset_movable (Case offset as_ o) h = h
without_offset_movable (CountStar offset) h = h
without_offset_movable (Call f offset e) h = h

pub without_offset_meaning : (cells : Cells) (role : List ℕ) (e : BoundExpr) → movable e ≡ true → meaning cells role (without_offset e) ≡ meaning cells role e
without_offset_meaning cells role (Column id) h = refl
without_offset_meaning cells role (Literal d) h = refl
without_offset_meaning cells role CurrentUser h = refl
without_offset_meaning cells role (Negate offset e) h = absurd (cc)
without_offset_meaning cells role (Arithmetic op offset e f) h = absurd (cc)
without_offset_meaning cells role (Comparison op offset e f) h = refl
without_offset_meaning cells role (Between negated offset e low high) h = refl
without_offset_meaning cells role (In negated offset values e) h = refl
without_offset_meaning cells role (IsNull negated offset e) h = refl
without_offset_meaning cells role (Not offset e) h = refl
without_offset_meaning cells role (And offset es) h = refl
without_offset_meaning cells role (Or offset es) h = refl
without_offset_meaning cells role (Cast offset to e) h = absurd (cc)
without_offset_meaning cells role (Case offset as_ o) h = refl
without_offset_meaning cells role (CountStar offset) h = absurd (cc)
without_offset_meaning cells role (Call f offset e) h = absurd (cc)

-- ---- folding

literal_or_movable : (literals : Bool) (m : Option Datum) (e : BoundExpr) → movable e ≡ true → movable (if literals then literal_or e m else e) ≡ true
literal_or_movable true (Some d) e h = refl
literal_or_movable true None e h = h
literal_or_movable false m e h = h

pub folded_node_movable : (e : BoundExpr) → movable e ≡ true → movable (folded_node e) ≡ true
folded_node_movable e h = literal_or_movable (of_literals e) (value_alone e) e h

module _ (cells : Cells) (role : List ℕ) where
  literal_same : (e : BoundExpr) → is_literal e ≡ true → meaning cells role e ≡ meaning nothing [] e
  literal_same (Literal d) h = refl
  literal_same _ h = absurd (cc)

  all_same : (es : BoundExprs) → are_literals es ≡ true → conjunction cells role es ≡ conjunction nothing [] es
  all_same no_expr h = refl
  all_same (one_expr e es) h = ap₂ (λ m n. unless_false (condition m) n) (literal_same e (and_left _ (are_literals es) h)) (all_same es (and_right (is_literal e) _ h))

  any_same : (es : BoundExprs) → are_literals es ≡ true → disjunction cells role es ≡ disjunction nothing [] es
  any_same no_expr h = refl
  any_same (one_expr e es) h = ap₂ (λ m n. unless_true (condition m) n) (literal_same e (and_left _ (are_literals es) h)) (any_same es (and_right (is_literal e) _ h))

  chosen_same : (as_ : BoundArms) (m n : Outcome) → are_literal_arms as_ ≡ true → m ≡ n → chosen cells role as_ m ≡ chosen nothing [] as_ n
  chosen_same no_arm m n h is = is
  chosen_same (one_arm when result as_) m n h is =
      let p = and_left (is_literal when && is_literal result) (are_literal_arms as_) h in
      ap (λ w. when_true (condition w) (meaning cells role result) (chosen cells role as_ m)) (literal_same when (and_left _ (is_literal result) p))
      ∙ ap₂ (λ x y. when_true (condition (meaning nothing [] when)) x y) (literal_same result (and_right (is_literal when) _ p)) (chosen_same as_ m n (and_right (is_literal when && is_literal result) _ h) is)

  otherwise_same : (o : BoundOtherwise) → is_literal_otherwise o ≡ true → otherwise cells role o ≡ otherwise nothing [] o
  otherwise_same Nothing h = refl
  otherwise_same (Value e) h = literal_same e h

  literals_same : (e : BoundExpr) → of_literals e ≡ true → meaning cells role e ≡ meaning nothing [] e
  literals_same (Column id) h = absurd (cc)
  literals_same (Literal d) h = refl
  literals_same CurrentUser h = absurd (cc)
  literals_same (Negate offset e) h = ap (negation offset) (literal_same e h)
  literals_same (Arithmetic op offset e f) h = ap₂ (arithmetic op offset) (literal_same e (and_left _ (is_literal f) h)) (literal_same f (and_right (is_literal e) _ h))
  literals_same (Comparison op offset e f) h = ap₂ (comparison op) (literal_same e (and_left _ (is_literal f) h)) (literal_same f (and_right (is_literal e) _ h))
  literals_same (Between negated offset e low high) h =
      let r = and_right (is_literal e) (is_literal low && is_literal high) h in
      ap (λ m. between negated m (meaning cells role low) (meaning cells role high)) (literal_same e (and_left _ (is_literal low && is_literal high) h))
      ∙ ap₂ (between negated (meaning nothing [] e)) (literal_same low (and_left _ (is_literal high) r)) (literal_same high (and_right (is_literal low) _ r))
  literals_same (In negated offset values e) h = ap (λ m. membership negated m values) (literal_same e h)
  literals_same (IsNull negated offset e) h = ap (null_check negated) (literal_same e h)
  literals_same (Not offset e) h = ap logical_not (literal_same e h)
  literals_same (And offset es) h = ap as_datum (all_same es h)
  literals_same (Or offset es) h = ap as_datum (any_same es h)
  literals_same (Cast offset to e) h = ap (cast_at to offset) (literal_same e h)
  literals_same (Case offset as_ o) h = chosen_same as_ _ _ (and_left _ (is_literal_otherwise o) h) (otherwise_same o (and_right (are_literal_arms as_) _ h))
  literals_same (CountStar offset) h = absurd (cc)
  literals_same (Call f offset e) h = absurd (cc)

  literal_or_same : (literals : Bool) (m : Outcome) (e : BoundExpr) → (literals ≡ true → meaning cells role e ≡ m) → meaning cells role (if literals then literal_or e (ok_value m) else e) ≡ meaning cells role e
  literal_or_same true (Ok d) e h = sym (h refl)
  literal_or_same true (Err f) e h = refl
  literal_or_same false m e h = refl

  pub folded_node_meaning : (e : BoundExpr) → meaning cells role (folded_node e) ≡ meaning cells role e
  folded_node_meaning e = literal_or_same (of_literals e) (meaning nothing [] e) e (literals_same e)
