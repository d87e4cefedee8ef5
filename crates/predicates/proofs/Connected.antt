-- Conditions joined by AND and OR, and taken apart, hold where their parts do.
use Rattle.std.proofs.Common.{◌≡◌, ◌∙◌, sym, ap, ap₂, refl, ℕ, zero, suc, Bool, true, false, ◌&&◌, ◌||◌, List, slice_get, Option, Some, None, option_map, Result, Ok, Err, IsOk}
use Rattle.value.specs.Orders.{is_true}
use Rattle.value.specs.declared.faults.Fault.{Fault}
use Rattle.value.specs.declared.order.Truth.{Truth}
use Rattle.value.specs.declared.order.Truth.TheVariants.{False, Unknown, True}
use Rattle.expr.specs.Conjuncts.{conjuncts_of, members}
use Rattle.expr.specs.Movable.{movable, all_movable}
use Rattle.expr.specs.Bound.{BoundExpr, And, Or, BoundExprs, no_expr, one_expr}
use Rattle.eval.specs.Meaning.{Cells, Outcome, meaning, condition, as_datum, unless_false, unless_true, is_true_outcome, holds}
use Rattle.eval.proofs.Movables.{and_left, and_right}
use Rattle.eval.proofs.Faultless.{faultless}
use Rattle.memory.proofs.Cases.{some_is}
use Rattle.predicates.specs.Inward.{before, and_members, or_before}
use Rattle.predicates.specs.Same.{same}
use Rattle.predicates.specs.Connectives.{and_of, or_of, both, first_and_rest, parted, rest_after, or_rest, rests_after, by_first, factored_of, factored}
use Rattle.predicates.proofs.Keeping as keeping
use Rattle.predicates.proofs.Truth.{condition_datum, all_before, any_or_before, before_movable, or_before_movable, truth, all, any}
use Rattle.predicates.proofs.Equal.{exact}

-- ---- true conditions

abbrev pub is_so : Result Truth Fault → Bool
is_so (Ok t) = is_true t
is_so (Err f) = false

so_outcome : (m : Outcome) → is_true_outcome m ≡ is_so (condition m)
so_outcome (Ok d) = refl
so_outcome (Err f) = refl

so_datum : (c : Result Truth Fault) → is_true_outcome (as_datum c) ≡ is_so c
so_datum c = so_outcome (as_datum c) ∙ ap is_so (condition_datum c)

so_and : (a b : Result Truth Fault) → is_so (unless_false a b) ≡ is_so a && is_so b
so_and (Ok False) b = refl
so_and (Err f) b = refl
so_and (Ok Unknown) (Ok False) = refl
so_and (Ok Unknown) (Ok Unknown) = refl
so_and (Ok Unknown) (Ok True) = refl
so_and (Ok Unknown) (Err f) = refl
so_and (Ok True) (Ok False) = refl
so_and (Ok True) (Ok Unknown) = refl
so_and (Ok True) (Ok True) = refl
so_and (Ok True) (Err f) = refl

so_or : (a b : Result Truth Fault) → IsOk a → is_so (unless_true a b) ≡ is_so a || is_so b
so_or (Ok True) b h = refl
so_or (Err f) b h = absurd (cc)
so_or (Ok False) (Ok False) h = refl
so_or (Ok False) (Ok Unknown) h = refl
so_or (Ok False) (Ok True) h = refl
so_or (Ok False) (Err f) h = refl
so_or (Ok Unknown) (Ok False) h = refl
so_or (Ok Unknown) (Ok Unknown) h = refl
so_or (Ok Unknown) (Ok True) h = refl
so_or (Ok Unknown) (Err f) h = refl

condition_ok : (m : Outcome) → IsOk m → IsOk (condition m)
condition_ok (Ok d) h = refl
condition_ok (Err f) h = absurd (cc)

and_true : (a : Bool) → a && true ≡ a
and_true true = refl
and_true false = refl

and_false : (a : Bool) → false ≡ a && false
and_false true = refl
and_false false = refl

pub or_false : (a : Bool) → a || false ≡ a
or_false true = refl
or_false false = refl

common : (a b c : Bool) → (a && b) || (a && c) ≡ a && (b || c)
common true b c = refl
common false b c = refl

-- ---- movable parts

and_of_movable : (es : BoundExprs) → all_movable es ≡ true → movable (and_of es) ≡ true
and_of_movable no_expr h = refl
and_of_movable (one_expr e no_expr) h = and_left (movable e) true h
and_of_movable (one_expr e (one_expr f es)) h = h

or_of_movable : (es : BoundExprs) → all_movable es ≡ true → movable (or_of es) ≡ true
or_of_movable no_expr h = refl
or_of_movable (one_expr e no_expr) h = and_left (movable e) true h
or_of_movable (one_expr e (one_expr f es)) h = h

and_members_movable : (e : BoundExpr) → movable e ≡ true → all_movable (and_members e) ≡ true
and_members_movable (And offset es) h = h
and_members_movable e h = keeping.both (movable e) true h refl

pub both_movable : (e f : BoundExpr) → movable e ≡ true → movable f ≡ true → movable (both e f) ≡ true
both_movable e f p q = and_of_movable (before (and_members e) (and_members f)) (before_movable (and_members e) (and_members f) (and_members_movable e p) (and_members_movable f q))

first_parts_movable : (es : BoundExprs) (a r : BoundExpr) → first_and_rest es ≡ Some (a, r) → all_movable es ≡ true → (movable a ≡ true) × (movable r ≡ true)
first_parts_movable no_expr a r q h = absurd (cc)
first_parts_movable (one_expr x no_expr) a r q h = absurd (cc)
first_parts_movable (one_expr x (one_expr y es)) a r q h =
    let p = some_is _ _ q in
    (ap (λ z. movable z.0) (sym p) ∙ and_left (movable x) (all_movable (one_expr y es)) h, ap (λ z. movable z.1) (sym p) ∙ and_of_movable (one_expr y es) (and_right (movable x) (all_movable (one_expr y es)) h))

pub parts_movable : (e a r : BoundExpr) → parted e ≡ Some (a, r) → movable e ≡ true → (movable a ≡ true) × (movable r ≡ true)
parts_movable (And offset es) a r q h = first_parts_movable es a r q h
parts_movable _ a r q h = absurd (cc)

-- ---- where they hold

module _ (cells : Cells) (role : List ℕ) where
  so_holds : (e : BoundExpr) → holds cells role e ≡ is_so (truth cells role e)
  so_holds e = so_outcome (meaning cells role e)

  and_of_holds : (es : BoundExprs) → holds cells role (and_of es) ≡ is_so (all cells role es)
  and_of_holds no_expr = refl
  and_of_holds (one_expr e no_expr) = so_holds e ∙ sym (so_and (truth cells role e) (Ok True) ∙ and_true (is_so (truth cells role e)))
  and_of_holds (one_expr e (one_expr f es)) = so_datum (all cells role (one_expr e (one_expr f es)))

  members_hold : (e : BoundExpr) → is_so (all cells role (and_members e)) ≡ holds cells role e
  members_hold (And offset es) = sym (so_datum (all cells role es))
  members_hold e = sym (and_of_holds (one_expr e no_expr))

  pub both_hold : (e f : BoundExpr) → holds cells role (both e f) ≡ holds cells role e && holds cells role f
  both_hold e f =
      and_of_holds (before (and_members e) (and_members f)) ∙ ap is_so (all_before cells role (and_members e) (and_members f)) ∙ so_and (all cells role (and_members e)) (all cells role (and_members f))
      ∙ ap₂ ◌&&◌ (members_hold e) (members_hold f)

  -- where a condition is true each of its conjuncts is
  members_true : (es : BoundExprs) (k : ℕ) (c : BoundExpr) → slice_get (members es) k ≡ Some c → is_so (all cells role es) ≡ true → holds cells role c ≡ true
  members_true no_expr k c at h = absurd (cc)
  members_true (one_expr e es) zero c at h =
      ap (holds cells role) (sym (some_is e c at)) ∙ so_holds e
      ∙ and_left (is_so (truth cells role e)) (is_so (all cells role es)) (sym (so_and (truth cells role e) (all cells role es)) ∙ h)
  members_true (one_expr e es) (suc k) c at h =
      members_true es k c at (and_right (is_so (truth cells role e)) (is_so (all cells role es)) (sym (so_and (truth cells role e) (all cells role es)) ∙ h))

  pub conjunct_holds : (e : BoundExpr) (k : ℕ) (c : BoundExpr) → slice_get (conjuncts_of e) k ≡ Some c → holds cells role e ≡ true → holds cells role c ≡ true
  conjunct_holds (And offset es) k c at h = members_true es k c at (sym (so_datum (all cells role es)) ∙ h)
  conjunct_holds e zero c at h = ap (holds cells role) (sym (some_is e c at)) ∙ h
  conjunct_holds e (suc k) c at h = absurd (cc)

  first_parts_hold : (es : BoundExprs) (a r : BoundExpr) → first_and_rest es ≡ Some (a, r) → is_so (all cells role es) ≡ holds cells role a && holds cells role r
  first_parts_hold no_expr a r q = absurd (cc)
  first_parts_hold (one_expr x no_expr) a r q = absurd (cc)
  first_parts_hold (one_expr x (one_expr y es)) a r q =
      let p = some_is _ _ q in
      so_and (truth cells role x) (all cells role (one_expr y es)) ∙ ap₂ ◌&&◌ (sym (so_holds x)) (sym (and_of_holds (one_expr y es))) ∙ ap (λ z. holds cells role z.0 && holds cells role z.1) p

  pub parts_hold : (e a r : BoundExpr) → parted e ≡ Some (a, r) → holds cells role e ≡ holds cells role a && holds cells role r
  parts_hold (And offset es) a r q = so_datum (all cells role es) ∙ first_parts_hold es a r q
  parts_hold _ a r q = absurd (cc)

  -- ---- the OR of ANDs with one first member

  truth_ok : (e : BoundExpr) → movable e ≡ true → IsOk (truth cells role e)
  truth_ok e h = condition_ok (meaning cells role e) (faultless cells role e h)

  or_of_holds : (es : BoundExprs) → all_movable es ≡ true → holds cells role (or_of es) ≡ is_so (any cells role es)
  or_of_holds no_expr h = refl
  or_of_holds (one_expr e no_expr) h = so_holds e ∙ sym (so_or (truth cells role e) (Ok False) (truth_ok e (and_left (movable e) true h)) ∙ or_false (is_so (truth cells role e)))
  or_of_holds (one_expr e (one_expr f es)) h = so_datum (any cells role (one_expr e (one_expr f es)))

-- the rest of a member whose first is a
rest_is : (a m rest : BoundExpr) (p : Option (BoundExpr × BoundExpr)) → parted m ≡ p → rest_after a p ≡ Some rest → parted m ≡ Some (a, rest)
rest_is a m rest None q h = absurd (cc)
rest_is a m rest (Some (b, r)) q h = go (same a b) refl h
  where
    go : (s : Bool) → same a b ≡ s → rest_after a (Some (b, r)) ≡ Some rest → parted m ≡ Some (a, rest)
    go true t k = q ∙ ap₂ (λ x y. Some (x, y)) (sym (exact a b t)) (some_is _ _ (sym (rw t refl) ∙ k))
    go false t k = absurd (cc (t, k))

module _ (a : BoundExpr) where
  -- the rests of a member and of those after it
  pub record Next (m : BoundExpr) (ms rests : BoundExprs) : Type 0 where
    pub rest : BoundExpr
    pub others : BoundExprs
    pub one_parted : parted m ≡ Some (a, rest)
    pub are_after : rests_after a ms ≡ Some others
    pub whole : or_before rest others ≡ rests

  next_is : (m : BoundExpr) (ms rests : BoundExprs) → rests_after a (one_expr m ms) ≡ Some rests → Next m ms rests
  next_is m ms rests h = go (rest_after a (parted m)) refl (rests_after a ms) refl h
    where
      go : (p : Option BoundExpr) → rest_after a (parted m) ≡ p → (q : Option BoundExprs) → rests_after a ms ≡ q → or_rest p q ≡ Some rests → Next m ms rests
      go None p q s k = absurd (cc)
      go (Some rest) p None s k = absurd (cc)
      go (Some rest) p (Some others) s k = record { rest = rest; others = others; one_parted = rest_is a m rest (parted m) refl p; are_after = s; whole = some_is _ _ k }

  rests_movable : (ms rests : BoundExprs) → rests_after a ms ≡ Some rests → all_movable ms ≡ true → all_movable rests ≡ true
  rests_movable no_expr rests q h = ap all_movable (sym (some_is _ _ q))
  rests_movable (one_expr m ms) rests q h =
      let n = next_is m ms rests q in
      ap all_movable (sym n.whole) ∙ or_before_movable n.rest n.others (parts_movable m a n.rest n.one_parted (and_left (movable m) (all_movable ms) h)).1 (rests_movable ms n.others n.are_after (and_right (movable m) (all_movable ms) h))

  module _ (cells : Cells) (role : List ℕ) where
    rests_hold : (ms rests : BoundExprs) → rests_after a ms ≡ Some rests → all_movable ms ≡ true → is_so (any cells role ms) ≡ holds cells role a && is_so (any cells role rests)
    rests_hold no_expr rests q h = and_false (holds cells role a) ∙ ap (λ es. holds cells role a && is_so (any cells role es)) (some_is _ _ q)
    rests_hold (one_expr m ms) rests q h =
        let n = next_is m ms rests q in
        let k = and_left (movable m) (all_movable ms) h in
        so_or (truth cells role m) (any cells role ms) (truth_ok cells role m k)
        ∙ ap₂ ◌||◌ (sym (so_holds cells role m) ∙ parts_hold cells role m a n.rest n.one_parted) (rests_hold ms n.others n.are_after (and_right (movable m) (all_movable ms) h))
        ∙ common (holds cells role a) (holds cells role n.rest) (is_so (any cells role n.others))
        ∙ ap (λ b. holds cells role a && b)
        (ap (λ b. b || is_so (any cells role n.others)) (so_holds cells role n.rest)
        ∙ sym (so_or (truth cells role n.rest) (any cells role n.others) (truth_ok cells role n.rest (parts_movable m a n.rest n.one_parted k).1))
        ∙ ap is_so (sym (any_or_before cells role n.rest n.others))
        ∙ ap (λ es. is_so (any cells role es)) n.whole)

-- the factored form, by its first member and the rests
pub record Factored (ms : BoundExprs) (f : BoundExpr) : Type 0 where
  pub first : BoundExpr
  pub rest : BoundExpr
  pub of_one : BoundExpr
  pub one_parted : parted of_one ≡ Some (first, rest)
  pub rests : BoundExprs
  pub are : rests_after first ms ≡ Some rests
  pub whole : both first (or_of rests) ≡ f
  pub one_movable : all_movable ms ≡ true → movable of_one ≡ true

factored_is : (ms : BoundExprs) (f : BoundExpr) → factored_of ms ≡ Some f → Factored ms f
factored_is no_expr f h = absurd (cc)
factored_is (one_expr m ms) f h = go (parted m) refl h
  where
    found : (a r : BoundExpr) → parted m ≡ Some (a, r) → (q : Option BoundExprs) → rests_after a (one_expr m ms) ≡ q → option_map (λ rests. both a (or_of rests)) q ≡ Some f → Factored (one_expr m ms) f
    found a r p None s k = absurd (cc)
    found a r p (Some rests) s k = record {
      first = a;
      rest = r;
      of_one = m;
      one_parted = p;
      rests = rests;
      are = s;
      whole = some_is _ _ k;
      one_movable = and_left (movable m) (all_movable ms);
    }

    go : (p : Option (BoundExpr × BoundExpr)) → parted m ≡ p → by_first p (one_expr m ms) ≡ Some f → Factored (one_expr m ms) f
    go None p k = absurd (cc)
    go (Some (a, r)) p k = found a r p (rests_after a (one_expr m ms)) refl k

pub factored_movable : (e f : BoundExpr) → movable e ≡ true → factored e ≡ Some f → movable f ≡ true
factored_movable (Or offset ms) f h q =
    let r = factored_is ms f q in
    ap movable (sym r.whole) ∙ both_movable r.first (or_of r.rests) (parts_movable r.of_one r.first r.rest r.one_parted (r.one_movable h)).0 (or_of_movable r.rests (rests_movable r.first ms r.rests r.are h))
factored_movable _ f h q = absurd (cc)

pub factored_holds : (cells : Cells) (role : List ℕ) (e f : BoundExpr) → movable e ≡ true → factored e ≡ Some f → holds cells role f ≡ holds cells role e
factored_holds cells role (Or offset ms) f h q =
    let r = factored_is ms f q in
    ap (holds cells role) (sym r.whole) ∙ both_hold cells role r.first (or_of r.rests)
    ∙ ap (λ b. holds cells role r.first && b) (or_of_holds cells role r.rests (rests_movable r.first ms r.rests r.are h))
    ∙ sym (so_datum (any cells role ms) ∙ rests_hold r.first cells role ms r.rests r.are h)
factored_holds cells role _ f h q = absurd (cc)
