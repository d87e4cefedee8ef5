-- What has nothing in it that may fault cannot fault.
use Rattle.std.proofs.Common.{◌≡◌, Bool, true, false, ◌&&◌, ℕ, Option, Some, None, refl}
use Rattle.expr.specs.Bound.{BoundExpr, Column, Literal, CurrentUser, Negate, Arithmetic, Comparison, Between, In, IsNull, Not, And, Or, Cast, Case, CountStar, Call, BoundExprs, no_expr, one_expr, BoundArms, no_arm, one_arm, BoundOtherwise, Nothing, Value}
use Rattle.expr.specs.Offsets.{least_of}
use Rattle.expr.specs.Fragile.{first_fragile, fragile_members, fragile_arms, fragile_otherwise}
use Rattle.expr.specs.Movable.{movable, all_movable, arms_movable, otherwise_movable}

none_of : (a b : Option ℕ) → least_of a b ≡ None → (a ≡ None) × (b ≡ None)
none_of None b h = (refl, h)
none_of (Some i) None h = cc
none_of (Some i) (Some j) h = cc

is_there : (i : ℕ) (b : Option ℕ) → least_of (Some i) b ≡ None → false ≡ true
is_there i None h = cc
is_there i (Some j) h = cc

both_true : (a b : Bool) → a ≡ true → b ≡ true → (a && b) ≡ true
both_true a b e f = rw (e, f) refl

mutual
  pub none_is_movable : (e : BoundExpr) → first_fragile e ≡ None → movable e ≡ true
  none_is_movable (Column id) h = refl
  none_is_movable (Literal d) h = refl
  none_is_movable CurrentUser h = refl
  none_is_movable (Negate offset e) h = is_there offset (first_fragile e) h
  none_is_movable (Arithmetic op offset e f) h = is_there offset (least_of (first_fragile e) (first_fragile f)) h
  none_is_movable (Comparison op offset e f) h =
      let n = none_of (first_fragile e) (first_fragile f) h in both_true (movable e) (movable f) (none_is_movable e n.0) (none_is_movable f n.1)
  none_is_movable (Between negated offset e low high) h =
      let n = none_of (first_fragile e) (least_of (first_fragile low) (first_fragile high)) h in
      let m = none_of (first_fragile low) (first_fragile high) n.1 in
      both_true (movable e) (movable low && movable high) (none_is_movable e n.0) (both_true (movable low) (movable high) (none_is_movable low m.0) (none_is_movable high m.1))
  none_is_movable (In negated offset values e) h = none_is_movable e h
  none_is_movable (IsNull negated offset e) h = none_is_movable e h
  none_is_movable (Not offset e) h = none_is_movable e h
  none_is_movable (And offset es) h = members_are_movable es h
  none_is_movable (Or offset es) h = members_are_movable es h
  none_is_movable (Cast offset to e) h = is_there offset (first_fragile e) h
  none_is_movable (Case offset as_ o) h =
      let n = none_of (fragile_arms as_) (fragile_otherwise o) h in both_true (arms_movable as_) (otherwise_movable o) (arms_are_movable as_ n.0) (otherwise_is_movable o n.1)
  none_is_movable (CountStar offset) h = cc
  none_is_movable (Call f offset e) h = is_there offset (first_fragile e) h

  members_are_movable : (es : BoundExprs) → fragile_members es ≡ None → all_movable es ≡ true
  members_are_movable no_expr h = refl
  members_are_movable (one_expr e es) h =
      let n = none_of (first_fragile e) (fragile_members es) h in both_true (movable e) (all_movable es) (none_is_movable e n.0) (members_are_movable es n.1)

  arms_are_movable : (as_ : BoundArms) → fragile_arms as_ ≡ None → arms_movable as_ ≡ true
  arms_are_movable no_arm h = refl
  arms_are_movable (one_arm when result as_) h =
      let n = none_of (least_of (first_fragile when) (first_fragile result)) (fragile_arms as_) h in
      let m = none_of (first_fragile when) (first_fragile result) n.0 in
      both_true (movable when && movable result) (arms_movable as_) (both_true (movable when) (movable result) (none_is_movable when m.0) (none_is_movable result m.1)) (arms_are_movable as_ n.1)

  otherwise_is_movable : (o : BoundOtherwise) → fragile_otherwise o ≡ None → otherwise_movable o ≡ true
  otherwise_is_movable Nothing h = refl
  otherwise_is_movable (Value e) h = none_is_movable e h
