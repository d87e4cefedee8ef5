-- A movable expression takes no memory.
use Rattle.std.proofs.Common.{◌≡◌, Bool, true, false, ◌&&◌, refl, ap₂}
use Rattle.expr.specs.Bound.{BoundExpr, Column, Literal, CurrentUser, Negate, Arithmetic, Comparison, Between, In, IsNull, Not, And, Or, Cast, Case, CountStar, Call, BoundExprs, no_expr, one_expr, BoundArms, no_arm, one_arm, BoundOtherwise, Nothing, Value}
use Rattle.expr.specs.Movable.{movable, all_movable, arms_movable, otherwise_movable}
use Rattle.eval.specs.Memory.{takes_no_memory, all_take_no_memory, arms_take_no_memory, otherwise_takes_no_memory}

pub and_left : (a b : Bool) → a && b ≡ true → a ≡ true
and_left true b h = refl
and_left false b h = h

pub and_right : (a b : Bool) → a && b ≡ true → b ≡ true
and_right true b h = h
and_right false b h = cc

mutual
  pub takes_none : (e : BoundExpr) → movable e ≡ true → takes_no_memory e ≡ true
  takes_none (Column id) h = refl
  takes_none (Literal d) h = refl
  takes_none CurrentUser h = refl
  takes_none (Negate offset e) h = cc
  takes_none (Arithmetic op offset e f) h = cc
  takes_none (Comparison op offset e f) h = ap₂ ◌&&◌ (takes_none e (and_left (movable e) (movable f) h)) (takes_none f (and_right (movable e) (movable f) h))
  takes_none (Between negated offset e low high) h =
      let bounds = and_right (movable e) (movable low && movable high) h in
      ap₂ ◌&&◌ (takes_none e (and_left (movable e) (movable low && movable high) h))
      (ap₂ ◌&&◌ (takes_none low (and_left (movable low) (movable high) bounds)) (takes_none high (and_right (movable low) (movable high) bounds)))
  takes_none (In negated offset values e) h = takes_none e h
  takes_none (IsNull negated offset e) h = takes_none e h
  takes_none (Not offset e) h = takes_none e h
  takes_none (And offset es) h = all_take_none es h
  takes_none (Or offset es) h = all_take_none es h
  takes_none (Cast offset to e) h = cc
  takes_none (Case offset as_ o) h = ap₂ ◌&&◌ (arms_take_none as_ (and_left (arms_movable as_) (otherwise_movable o) h)) (otherwise_takes_none o (and_right (arms_movable as_) (otherwise_movable o) h))
  takes_none (CountStar offset) h = refl
  takes_none (Call f offset e) h = refl

  all_take_none : (es : BoundExprs) → all_movable es ≡ true → all_take_no_memory es ≡ true
  all_take_none no_expr h = refl
  all_take_none (one_expr e es) h = ap₂ ◌&&◌ (takes_none e (and_left (movable e) (all_movable es) h)) (all_take_none es (and_right (movable e) (all_movable es) h))

  arms_take_none : (as_ : BoundArms) → arms_movable as_ ≡ true → arms_take_no_memory as_ ≡ true
  arms_take_none no_arm h = refl
  arms_take_none (one_arm when result as_) h =
      let both = and_left (movable when && movable result) (arms_movable as_) h in
      ap₂ ◌&&◌ (ap₂ ◌&&◌ (takes_none when (and_left (movable when) (movable result) both)) (takes_none result (and_right (movable when) (movable result) both)))
      (arms_take_none as_ (and_right (movable when && movable result) (arms_movable as_) h))

  otherwise_takes_none : (o : BoundOtherwise) → otherwise_movable o ≡ true → otherwise_takes_no_memory o ≡ true
  otherwise_takes_none Nothing h = refl
  otherwise_takes_none (Value e) h = takes_none e h
