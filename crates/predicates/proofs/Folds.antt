-- A movable part becomes a literal exactly when it is closed.
use Rattle.std.proofs.Common.{◌≡◌, refl, [], Bool, true, false, ◌&&◌, Ok, Err, IsOk, if◌then◌else◌}
use Rattle.std.specs.Cmp.{both_ways}
use Rattle.expr.specs.Movable.{movable, all_movable, arms_movable, otherwise_movable}
use Rattle.expr.specs.Bound.{BoundExpr, Column, Literal, CurrentUser, Negate, Arithmetic, Comparison, Between, In, IsNull, Not, And, Or, Cast, Case, CountStar, Call, BoundExprs, no_expr, one_expr, BoundArms, no_arm, one_arm, BoundOtherwise, Nothing, Value}
use Rattle.eval.specs.Meaning.{Outcome, meaning}
use Rattle.eval.proofs.Faultless.{faultless}
use Rattle.eval.proofs.Movables.{and_left, and_right}
use Rattle.predicates.specs.Rebuilt.{all_rebuilt, arms_rebuilt, otherwise_rebuilt}
use Rattle.predicates.specs.Folded.{is_literal, are_literals, are_literal_arms, is_literal_otherwise, of_literals, nothing, ok_value, literal_or, folded_node, folded}
use Rattle.predicates.specs.Closed.{closed, all_closed, arms_closed, otherwise_closed}
use Rattle.predicates.proofs.Keeping.{both, movable_kept, all_kept, arms_kept, otherwise_kept}
use Rattle.predicates.proofs.NodeForms.{folded_node_movable}

becomes : (b : Bool) (m : Outcome) (n : BoundExpr) → b ≡ true → IsOk m → is_literal (if b then literal_or n (ok_value m) else n) ≡ true
becomes true (Ok d) n p q = refl
becomes true (Err f) n p q = absurd (cc)
becomes false m n p q = absurd (cc)

node : (n : BoundExpr) → of_literals n ≡ true → movable n ≡ true → is_literal (folded_node n) ≡ true
node n p k = becomes (of_literals n) (meaning nothing [] n) n p (faultless nothing [] n k)

was : (b : Bool) (m : Outcome) (n : BoundExpr) → is_literal n ≡ false → is_literal (if b then literal_or n (ok_value m) else n) ≡ true → b ≡ true
was true m n p q = refl
was false m n p q = absurd (cc)

made : (n : BoundExpr) → is_literal n ≡ false → is_literal (folded_node n) ≡ true → of_literals n ≡ true
made n = was (of_literals n) (meaning nothing [] n) n

kept : (e : BoundExpr) → movable e ≡ true → movable (folded e) ≡ true
kept = movable_kept folded_node folded_node_movable

mutual
  literal_if : (e : BoundExpr) → movable e ≡ true → closed e ≡ true → is_literal (folded e) ≡ true
  literal_if (Column id) k h = absurd (cc)
  literal_if (Literal d) k h = refl
  literal_if CurrentUser k h = absurd (cc)
  literal_if (Negate offset e) k h = absurd (cc)
  literal_if (Arithmetic op offset e f) k h = absurd (cc)
  literal_if (Comparison op offset e f) k h =
      let p = and_left (movable e) (movable f) k in
      let q = and_right (movable e) (movable f) k in
      node (Comparison op offset (folded e) (folded f)) (both _ _ (literal_if e p (and_left _ (closed f) h)) (literal_if f q (and_right (closed e) _ h))) (both _ _ (kept e p) (kept f q))
  literal_if (Between negated offset e low high) k h =
      let p = and_left (movable e) (movable low && movable high) k in
      let r = and_right (movable e) (movable low && movable high) k in
      let q = and_left (movable low) (movable high) r in
      let s = and_right (movable low) (movable high) r in
      let u = and_right (closed e) (closed low && closed high) h in
      node (Between negated offset (folded e) (folded low) (folded high))
      (both _ _ (literal_if e p (and_left _ (closed low && closed high) h)) (both _ _ (literal_if low q (and_left _ (closed high) u)) (literal_if high s (and_right (closed low) _ u))))
      (both _ _ (kept e p) (both _ _ (kept low q) (kept high s)))
  literal_if (In negated offset values e) k h = node (In negated offset values (folded e)) (literal_if e k h) (kept e k)
  literal_if (IsNull negated offset e) k h = node (IsNull negated offset (folded e)) (literal_if e k h) (kept e k)
  literal_if (Not offset e) k h = node (Not offset (folded e)) (literal_if e k h) (kept e k)
  literal_if (And offset es) k h = node (And offset (all_rebuilt folded_node es)) (literals_if es k h) (all_kept folded_node folded_node_movable es k)
  literal_if (Or offset es) k h = node (Or offset (all_rebuilt folded_node es)) (literals_if es k h) (all_kept folded_node folded_node_movable es k)
  literal_if (Cast offset to e) k h = absurd (cc)
  literal_if (Case offset as_ o) k h =
      let p = and_left (arms_movable as_) (otherwise_movable o) k in
      let q = and_right (arms_movable as_) (otherwise_movable o) k in
      node (Case offset (arms_rebuilt folded_node as_) (otherwise_rebuilt folded_node o))
      (both _ _ (arms_if as_ p (and_left _ (otherwise_closed o) h)) (otherwise_if o q (and_right (arms_closed as_) _ h)))
      (both _ _ (arms_kept folded_node folded_node_movable as_ p) (otherwise_kept folded_node folded_node_movable o q))
  literal_if (CountStar offset) k h = absurd (cc)
  literal_if (Call f offset e) k h = absurd (cc)

  literals_if : (es : BoundExprs) → all_movable es ≡ true → all_closed es ≡ true → are_literals (all_rebuilt folded_node es) ≡ true
  literals_if no_expr k h = refl
  literals_if (one_expr e es) k h = both _ _ (literal_if e (and_left _ (all_movable es) k) (and_left _ (all_closed es) h)) (literals_if es (and_right (movable e) _ k) (and_right (closed e) _ h))

  arms_if : (as_ : BoundArms) → arms_movable as_ ≡ true → arms_closed as_ ≡ true → are_literal_arms (arms_rebuilt folded_node as_) ≡ true
  arms_if no_arm k h = refl
  arms_if (one_arm when result as_) k h =
      let p = and_left (movable when && movable result) (arms_movable as_) k in
      let q = and_left (closed when && closed result) (arms_closed as_) h in
      both _ _ (both _ _ (literal_if when (and_left _ (movable result) p) (and_left _ (closed result) q)) (literal_if result (and_right (movable when) _ p) (and_right (closed when) _ q)))
      (arms_if as_ (and_right (movable when && movable result) _ k) (and_right (closed when && closed result) _ h))

  otherwise_if : (o : BoundOtherwise) → otherwise_movable o ≡ true → otherwise_closed o ≡ true → is_literal_otherwise (otherwise_rebuilt folded_node o) ≡ true
  otherwise_if Nothing k h = refl
  otherwise_if (Value e) k h = literal_if e k h

mutual
  closed_if : (e : BoundExpr) → is_literal (folded e) ≡ true → closed e ≡ true
  closed_if (Column id) h = absurd (cc)
  closed_if (Literal d) h = refl
  closed_if CurrentUser h = absurd (cc)
  closed_if (Negate offset e) h = closed_if e (made (Negate offset (folded e)) refl h)
  closed_if (Arithmetic op offset e f) h =
      let p = made (Arithmetic op offset (folded e) (folded f)) refl h in both _ _ (closed_if e (and_left _ (is_literal (folded f)) p)) (closed_if f (and_right (is_literal (folded e)) _ p))
  closed_if (Comparison op offset e f) h =
      let p = made (Comparison op offset (folded e) (folded f)) refl h in both _ _ (closed_if e (and_left _ (is_literal (folded f)) p)) (closed_if f (and_right (is_literal (folded e)) _ p))
  closed_if (Between negated offset e low high) h =
      let p = made (Between negated offset (folded e) (folded low) (folded high)) refl h in
      let q = and_right (is_literal (folded e)) (is_literal (folded low) && is_literal (folded high)) p in
      both _ _ (closed_if e (and_left _ (is_literal (folded low) && is_literal (folded high)) p)) (both _ _ (closed_if low (and_left _ (is_literal (folded high)) q)) (closed_if high (and_right (is_literal (folded low)) _ q)))
  closed_if (In negated offset values e) h = closed_if e (made (In negated offset values (folded e)) refl h)
  closed_if (IsNull negated offset e) h = closed_if e (made (IsNull negated offset (folded e)) refl h)
  closed_if (Not offset e) h = closed_if e (made (Not offset (folded e)) refl h)
  closed_if (And offset es) h = all_closed_if es (made (And offset (all_rebuilt folded_node es)) refl h)
  closed_if (Or offset es) h = all_closed_if es (made (Or offset (all_rebuilt folded_node es)) refl h)
  closed_if (Cast offset to e) h = closed_if e (made (Cast offset to (folded e)) refl h)
  closed_if (Case offset as_ o) h =
      let p = made (Case offset (arms_rebuilt folded_node as_) (otherwise_rebuilt folded_node o)) refl h in
      both _ _ (arms_closed_if as_ (and_left _ (is_literal_otherwise (otherwise_rebuilt folded_node o)) p)) (otherwise_closed_if o (and_right (are_literal_arms (arms_rebuilt folded_node as_)) _ p))
  closed_if (CountStar offset) h = absurd (cc)
  closed_if (Call f offset e) h = absurd (cc)

  all_closed_if : (es : BoundExprs) → are_literals (all_rebuilt folded_node es) ≡ true → all_closed es ≡ true
  all_closed_if no_expr h = refl
  all_closed_if (one_expr e es) h = both _ _ (closed_if e (and_left _ (are_literals (all_rebuilt folded_node es)) h)) (all_closed_if es (and_right (is_literal (folded e)) _ h))

  arms_closed_if : (as_ : BoundArms) → are_literal_arms (arms_rebuilt folded_node as_) ≡ true → arms_closed as_ ≡ true
  arms_closed_if no_arm h = refl
  arms_closed_if (one_arm when result as_) h =
      let p = and_left (is_literal (folded when) && is_literal (folded result)) (are_literal_arms (arms_rebuilt folded_node as_)) h in
      both _ _ (both _ _ (closed_if when (and_left _ (is_literal (folded result)) p)) (closed_if result (and_right (is_literal (folded when)) _ p)))
      (arms_closed_if as_ (and_right (is_literal (folded when) && is_literal (folded result)) _ h))

  otherwise_closed_if : (o : BoundOtherwise) → is_literal_otherwise (otherwise_rebuilt folded_node o) ≡ true → otherwise_closed o ≡ true
  otherwise_closed_if Nothing h = refl
  otherwise_closed_if (Value e) h = closed_if e h

pub folds : (e : BoundExpr) → movable e ≡ true → is_literal (folded e) ≡ closed e
folds e k = both_ways (is_literal (folded e)) (closed e) (closed_if e) (literal_if e k)
