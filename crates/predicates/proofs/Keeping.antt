-- An expression made anew by a rule keeps all that the rule keeps of each node.
use Rattle.std.proofs.Common.{◌≡◌, ◌∙◌, ap, ap₂, refl, ℕ, true, false, ◌&&◌, Bool, List}
use Rattle.expr.specs.Movable.{movable, all_movable, arms_movable, otherwise_movable}
use Rattle.expr.specs.Bound.{BoundExpr, Column, Literal, CurrentUser, Negate, Arithmetic, Comparison, Between, In, IsNull, Not, And, Or, Cast, Case, CountStar, Call, BoundExprs, no_expr, one_expr, BoundArms, no_arm, one_arm, BoundOtherwise, Nothing, Value}
use Rattle.eval.specs.Meaning.{Cells, Outcome, meaning, conjunction, disjunction, chosen, otherwise, comparison, between, membership, null_check, logical_not, condition, unless_false, unless_true, when_true, as_datum}
use Rattle.eval.proofs.Movables.{and_left, and_right}
use Rattle.predicates.specs.Rebuilt.{rebuilt, all_rebuilt, arms_rebuilt, otherwise_rebuilt}

pub both : (a b : Bool) → a ≡ true → b ≡ true → a && b ≡ true
both true b p q = q
both false b p q = cc

module _ (at : BoundExpr → BoundExpr) (stays : (e : BoundExpr) → movable e ≡ true → movable (at e) ≡ true) where
  mutual
    pub movable_kept : (e : BoundExpr) → movable e ≡ true → movable (rebuilt at e) ≡ true
    movable_kept (Column id) h = stays _ refl
    movable_kept (Literal d) h = stays _ refl
    movable_kept CurrentUser h = stays _ refl
    movable_kept (Negate offset e) h = absurd (cc)
    movable_kept (Arithmetic op offset e f) h = absurd (cc)
    movable_kept (Comparison op offset e f) h = stays _ (both _ _ (movable_kept e (and_left _ (movable f) h)) (movable_kept f (and_right (movable e) _ h)))
    movable_kept (Between negated offset e low high) h =
        let q = and_right (movable e) (movable low && movable high) h in
        stays _ (both _ _ (movable_kept e (and_left _ (movable low && movable high) h)) (both _ _ (movable_kept low (and_left _ (movable high) q)) (movable_kept high (and_right (movable low) _ q))))
    movable_kept (In negated offset values e) h = stays _ (movable_kept e h)
    movable_kept (IsNull negated offset e) h = stays _ (movable_kept e h)
    movable_kept (Not offset e) h = stays _ (movable_kept e h)
    movable_kept (And offset es) h = stays _ (all_kept es h)
    movable_kept (Or offset es) h = stays _ (all_kept es h)
    movable_kept (Cast offset to e) h = absurd (cc)
    movable_kept (Case offset as_ o) h = stays _ (both _ _ (arms_kept as_ (and_left _ (otherwise_movable o) h)) (otherwise_kept o (and_right (arms_movable as_) _ h)))
    movable_kept (CountStar offset) h = absurd (cc)
    movable_kept (Call f offset e) h = absurd (cc)

    pub all_kept : (es : BoundExprs) → all_movable es ≡ true → all_movable (all_rebuilt at es) ≡ true
    all_kept no_expr h = refl
    all_kept (one_expr e es) h = both _ _ (movable_kept e (and_left _ (all_movable es) h)) (all_kept es (and_right (movable e) _ h))

    pub arms_kept : (as_ : BoundArms) → arms_movable as_ ≡ true → arms_movable (arms_rebuilt at as_) ≡ true
    arms_kept no_arm h = refl
    arms_kept (one_arm when result as_) h =
        let p = and_left (movable when && movable result) (arms_movable as_) h in
        both _ _ (both _ _ (movable_kept when (and_left _ (movable result) p)) (movable_kept result (and_right (movable when) _ p))) (arms_kept as_ (and_right (movable when && movable result) _ h))

    pub otherwise_kept : (o : BoundOtherwise) → otherwise_movable o ≡ true → otherwise_movable (otherwise_rebuilt at o) ≡ true
    otherwise_kept Nothing h = refl
    otherwise_kept (Value e) h = movable_kept e h

  module _ (cells : Cells) (role : List ℕ) (same : (e : BoundExpr) → movable e ≡ true → meaning cells role (at e) ≡ meaning cells role e) where
    mutual
      pub meaning_kept : (e : BoundExpr) → movable e ≡ true → meaning cells role (rebuilt at e) ≡ meaning cells role e
      meaning_kept (Column id) h = same _ refl
      meaning_kept (Literal d) h = same _ refl
      meaning_kept CurrentUser h = same _ refl
      meaning_kept (Negate offset e) h = absurd (cc)
      meaning_kept (Arithmetic op offset e f) h = absurd (cc)
      meaning_kept (Comparison op offset e f) h =
          let p = and_left (movable e) (movable f) h in
          let q = and_right (movable e) (movable f) h in
          same (Comparison op offset (rebuilt at e) (rebuilt at f)) (both _ _ (movable_kept e p) (movable_kept f q)) ∙ ap₂ (comparison op) (meaning_kept e p) (meaning_kept f q)
      meaning_kept (Between negated offset e low high) h =
          let p = and_left (movable e) (movable low && movable high) h in
          let r = and_right (movable e) (movable low && movable high) h in
          let q = and_left (movable low) (movable high) r in
          let s = and_right (movable low) (movable high) r in
          same (Between negated offset (rebuilt at e) (rebuilt at low) (rebuilt at high)) (both _ _ (movable_kept e p) (both _ _ (movable_kept low q) (movable_kept high s)))
          ∙ ap (λ m. between negated m (meaning cells role (rebuilt at low)) (meaning cells role (rebuilt at high))) (meaning_kept e p)
          ∙ ap₂ (between negated (meaning cells role e)) (meaning_kept low q) (meaning_kept high s)
      meaning_kept (In negated offset values e) h = same (In negated offset values (rebuilt at e)) (movable_kept e h) ∙ ap (λ m. membership negated m values) (meaning_kept e h)
      meaning_kept (IsNull negated offset e) h = same (IsNull negated offset (rebuilt at e)) (movable_kept e h) ∙ ap (null_check negated) (meaning_kept e h)
      meaning_kept (Not offset e) h = same (Not offset (rebuilt at e)) (movable_kept e h) ∙ ap logical_not (meaning_kept e h)
      meaning_kept (And offset es) h = same (And offset (all_rebuilt at es)) (all_kept es h) ∙ ap as_datum (conjunction_kept es h)
      meaning_kept (Or offset es) h = same (Or offset (all_rebuilt at es)) (all_kept es h) ∙ ap as_datum (disjunction_kept es h)
      meaning_kept (Cast offset to e) h = absurd (cc)
      meaning_kept (Case offset as_ o) h =
          let p = and_left (arms_movable as_) (otherwise_movable o) h in
          let q = and_right (arms_movable as_) (otherwise_movable o) h in
          same (Case offset (arms_rebuilt at as_) (otherwise_rebuilt at o)) (both _ _ (arms_kept as_ p) (otherwise_kept o q)) ∙ chosen_kept as_ _ _ p (other_kept o q)
      meaning_kept (CountStar offset) h = absurd (cc)
      meaning_kept (Call f offset e) h = absurd (cc)

      conjunction_kept : (es : BoundExprs) → all_movable es ≡ true → conjunction cells role (all_rebuilt at es) ≡ conjunction cells role es
      conjunction_kept no_expr h = refl
      conjunction_kept (one_expr e es) h =
          ap₂ (λ m n. unless_false (condition m) n) (meaning_kept e (and_left (movable e) (all_movable es) h)) (conjunction_kept es (and_right (movable e) (all_movable es) h))

      disjunction_kept : (es : BoundExprs) → all_movable es ≡ true → disjunction cells role (all_rebuilt at es) ≡ disjunction cells role es
      disjunction_kept no_expr h = refl
      disjunction_kept (one_expr e es) h =
          ap₂ (λ m n. unless_true (condition m) n) (meaning_kept e (and_left (movable e) (all_movable es) h)) (disjunction_kept es (and_right (movable e) (all_movable es) h))

      chosen_kept : (as_ : BoundArms) (m n : Outcome) → arms_movable as_ ≡ true → m ≡ n → chosen cells role (arms_rebuilt at as_) m ≡ chosen cells role as_ n
      chosen_kept no_arm m n h is = is
      chosen_kept (one_arm when result as_) m n h is =
          let p = and_left (movable when && movable result) (arms_movable as_) h in
          ap (λ w. when_true (condition w) (meaning cells role (rebuilt at result)) (chosen cells role (arms_rebuilt at as_) m)) (meaning_kept when (and_left (movable when) (movable result) p))
          ∙ ap₂ (λ x y. when_true (condition (meaning cells role when)) x y) (meaning_kept result (and_right (movable when) (movable result) p)) (chosen_kept as_ m n (and_right (movable when && movable result) (arms_movable as_) h) is)

      other_kept : (o : BoundOtherwise) → otherwise_movable o ≡ true → otherwise cells role (otherwise_rebuilt at o) ≡ otherwise cells role o
      other_kept Nothing h = refl
      other_kept (Value e) h = meaning_kept e h
