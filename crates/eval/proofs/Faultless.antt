-- A movable expression never faults.
use Rattle.std.proofs.Common.{◌≡◌, ℕ, true, ◌&&◌, List, refl, Result, Ok, Err, IsOk}
use Rattle.value.specs.declared.order.Truth.{Truth}
use Rattle.value.specs.declared.order.Truth.TheVariants.{False, Unknown, True}
use Rattle.value.specs.declared.faults.Fault.{Fault}
use Rattle.expr.specs.Bound.{BoundExpr, Column, Literal, CurrentUser, Negate, Arithmetic, Comparison, Between, In, IsNull, Not, And, Or, Cast, Case, CountStar, Call, BoundExprs, no_expr, one_expr, BoundArms, no_arm, one_arm, BoundOtherwise, Nothing, Value}
use Rattle.expr.specs.Movable.{movable, all_movable, arms_movable, otherwise_movable}
use Rattle.eval.specs.Meaning.{Cells, Outcome, meaning, conjunction, disjunction, chosen, otherwise, ◌>>=◌, condition, with_least, with_greatest, unless_false, unless_true, when_true, as_datum}
use Rattle.eval.proofs.Movables.{and_left, and_right}

bind_ok : {A B : Type 0} (m : Result A Fault) (f : A → Result B Fault) → IsOk m → ((x : A) → IsOk (f x)) → IsOk (m >>= f)
bind_ok (Ok x) f h k = k x
bind_ok (Err e) f h k = cc

as_datum_ok : (m : Result Truth Fault) → IsOk m → IsOk (as_datum m)
as_datum_ok (Ok t) h = refl
as_datum_ok (Err e) h = h

least_ok : (t : Truth) (m : Result Truth Fault) → IsOk m → IsOk (with_least t m)
least_ok t (Ok u) h = refl
least_ok t (Err e) h = h

greatest_ok : (t : Truth) (m : Result Truth Fault) → IsOk m → IsOk (with_greatest t m)
greatest_ok t (Ok u) h = refl
greatest_ok t (Err e) h = h

unless_false_ok : (o : Outcome) (m : Result Truth Fault) → IsOk o → IsOk m → IsOk (unless_false (condition o) m)
unless_false_ok (Err e) m p h = p
unless_false_ok (Ok d) m p h = go (condition (Ok d)) m refl h
  where
    go : (c : Result Truth Fault) (m : Result Truth Fault) → IsOk c → IsOk m → IsOk (unless_false c m)
    go (Ok False) m p h = refl
    go (Ok Unknown) m p h = least_ok Unknown m h
    go (Ok True) m p h = least_ok True m h
    go (Err e) m p h = p

unless_true_ok : (o : Outcome) (m : Result Truth Fault) → IsOk o → IsOk m → IsOk (unless_true (condition o) m)
unless_true_ok (Err e) m p h = p
unless_true_ok (Ok d) m p h = go (condition (Ok d)) m refl h
  where
    go : (c : Result Truth Fault) (m : Result Truth Fault) → IsOk c → IsOk m → IsOk (unless_true c m)
    go (Ok True) m p h = refl
    go (Ok Unknown) m p h = greatest_ok Unknown m h
    go (Ok False) m p h = greatest_ok False m h
    go (Err e) m p h = p

when_true_ok : (o a b : Outcome) → IsOk o → IsOk a → IsOk b → IsOk (when_true (condition o) a b)
when_true_ok (Err e) a b o p q = o
when_true_ok (Ok d) a b o p q = go (condition (Ok d)) refl
  where
    go : (c : Result Truth Fault) → IsOk c → IsOk (when_true c a b)
    go (Ok True) h = p
    go (Ok Unknown) h = q
    go (Ok False) h = q
    go (Err e) h = h

module _ (cells : Cells) (role : List ℕ) where
  mutual
    pub faultless : (e : BoundExpr) → movable e ≡ true → IsOk (meaning cells role e)
    faultless (Column id) h = refl
    faultless (Literal d) h = refl
    faultless CurrentUser h = refl
    faultless (Negate offset e) h = absurd (cc)
    faultless (Arithmetic operator offset e f) h = absurd (cc)
    faultless (Comparison operator offset e f) h =
        bind_ok (meaning cells role e) _ (faultless e (and_left (movable e) (movable f) h)) (λ x.
        bind_ok (meaning cells role f) _ (faultless f (and_right (movable e) (movable f) h)) (λ y. refl))
    faultless (Between negated offset e low high) h =
        let q = and_right (movable e) (movable low && movable high) h in
        bind_ok (meaning cells role e) _ (faultless e (and_left (movable e) (movable low && movable high) h)) (λ x.
        bind_ok (meaning cells role low) _ (faultless low (and_left (movable low) (movable high) q)) (λ y.
        bind_ok (meaning cells role high) _ (faultless high (and_right (movable low) (movable high) q)) (λ z. refl)))
    faultless (In negated offset values e) h = bind_ok (meaning cells role e) _ (faultless e h) (λ x. refl)
    faultless (IsNull negated offset e) h = bind_ok (meaning cells role e) _ (faultless e h) (λ x. refl)
    faultless (Not offset e) h = bind_ok (meaning cells role e) _ (faultless e h) (λ x. refl)
    faultless (And offset es) h = as_datum_ok _ (faultless_and es h)
    faultless (Or offset es) h = as_datum_ok _ (faultless_or es h)
    faultless (Cast offset to e) h = absurd (cc)
    faultless (Case offset as_ o) h =
        faultless_case as_ (otherwise cells role o) (and_left (arms_movable as_) (otherwise_movable o) h) (faultless_otherwise o (and_right (arms_movable as_) (otherwise_movable o) h))
    faultless (CountStar offset) h = refl
    faultless (Call aggregate offset e) h = refl

    faultless_and : (es : BoundExprs) → all_movable es ≡ true → IsOk (conjunction cells role es)
    faultless_and no_expr h = refl
    faultless_and (one_expr e es) h =
        unless_false_ok (meaning cells role e) (conjunction cells role es) (faultless e (and_left (movable e) (all_movable es) h)) (faultless_and es (and_right (movable e) (all_movable es) h))

    faultless_or : (es : BoundExprs) → all_movable es ≡ true → IsOk (disjunction cells role es)
    faultless_or no_expr h = refl
    faultless_or (one_expr e es) h =
        unless_true_ok (meaning cells role e) (disjunction cells role es) (faultless e (and_left (movable e) (all_movable es) h)) (faultless_or es (and_right (movable e) (all_movable es) h))

    faultless_case : (as_ : BoundArms) (rest : Outcome) → arms_movable as_ ≡ true → IsOk rest → IsOk (chosen cells role as_ rest)
    faultless_case no_arm rest h k = k
    faultless_case (one_arm when result as_) rest h k =
        let p = and_left (movable when && movable result) (arms_movable as_) h in
        when_true_ok (meaning cells role when) (meaning cells role result) (chosen cells role as_ rest)
        (faultless when (and_left (movable when) (movable result) p)) (faultless result (and_right (movable when) (movable result) p))
        (faultless_case as_ rest (and_right (movable when && movable result) (arms_movable as_) h) k)

    faultless_otherwise : (o : BoundOtherwise) → otherwise_movable o ≡ true → IsOk (otherwise cells role o)
    faultless_otherwise Nothing h = refl
    faultless_otherwise (Value e) h = faultless e h
