-- The outcome of an expression depends on no aggregate that is not among its aggregates.
use Rattle.std.proofs.Common.{◌≡◌, ℕ, List, [], ◌∷◌, ◌++◌, Ok, Contains, Some, None, refl, ap, ap₂, ◌∙◌, arith}
use Rattle.std.proofs.lemmas.List.Elements.{Contains-append_left, Contains-append_right}
use Rattle.value.specs.declared.operators.Aggregate.TheVariants.{Count}
use Rattle.expr.specs.Bound.{BoundExpr, Column, Literal, CurrentUser, Negate, Arithmetic, Comparison, Between, In, IsNull, Not, And, Or, Cast, Case, CountStar, Call, BoundExprs, no_expr, one_expr, BoundArms, no_arm, one_arm, BoundOtherwise, Nothing, Value}
use Rattle.expr.specs.Aggregates.{AggregateCall, aggregates, all_aggregates, arms_aggregates, otherwise_aggregates}
use Rattle.eval.specs.Meaning.{Cells, Outcome, meaning, conjunction, disjunction, chosen, otherwise, negation, arithmetic, comparison, between, membership, null_check, logical_not, cast_at, condition, unless_false, unless_true, when_true, as_datum}
use Rattle.eval.specs.Laws.{AgreeOnCalls}

contains_first : (id : AggregateCall) (ids : List AggregateCall) → Contains (id ∷ ids) id
contains_first id ids = (0, omega arith, refl)

module _ (one other : Cells) where
  pub agree_left : (xs ys : List AggregateCall) → AgreeOnCalls (xs ++ ys) one other → AgreeOnCalls xs one other
  agree_left xs ys h = record { columns = h.columns; aggregates = λ id c. h.aggregates id (Contains-append_left xs ys id c) }

  pub agree_right : (xs ys : List AggregateCall) → AgreeOnCalls (xs ++ ys) one other → AgreeOnCalls ys one other
  agree_right xs ys h = record { columns = h.columns; aggregates = λ id c. h.aggregates id (Contains-append_right xs ys id c) }

  module _ (role : List ℕ) where
    mutual
      pub same_meaning : (e : BoundExpr) → AgreeOnCalls (aggregates e) one other → meaning one role e ≡ meaning other role e
      same_meaning (Column id) h = ap Ok (h.columns id)
      same_meaning (Literal d) h = refl
      same_meaning CurrentUser h = refl
      same_meaning (Negate offset e) h = ap (negation offset) (same_meaning e h)
      same_meaning (Arithmetic operator offset e f) h =
          ap₂ (arithmetic operator offset) (same_meaning e (agree_left (aggregates e) (aggregates f) h)) (same_meaning f (agree_right (aggregates e) (aggregates f) h))
      same_meaning (Comparison operator offset e f) h =
          ap₂ (comparison operator) (same_meaning e (agree_left (aggregates e) (aggregates f) h)) (same_meaning f (agree_right (aggregates e) (aggregates f) h))
      same_meaning (Between negated offset e low high) h =
          let r = agree_right (aggregates e) (aggregates low ++ aggregates high) h in
          ap (λ m. between negated m (meaning one role low) (meaning one role high)) (same_meaning e (agree_left (aggregates e) (aggregates low ++ aggregates high) h))
          ∙ ap₂ (between negated (meaning other role e)) (same_meaning low (agree_left (aggregates low) (aggregates high) r)) (same_meaning high (agree_right (aggregates low) (aggregates high) r))
      same_meaning (In negated offset values e) h = ap (λ m. membership negated m values) (same_meaning e h)
      same_meaning (IsNull negated offset e) h = ap (null_check negated) (same_meaning e h)
      same_meaning (Not offset e) h = ap logical_not (same_meaning e h)
      same_meaning (And offset es) h = ap as_datum (same_conjunction es h)
      same_meaning (Or offset es) h = ap as_datum (same_disjunction es h)
      same_meaning (Cast offset to e) h = ap (cast_at to offset) (same_meaning e h)
      same_meaning (Case offset as_ o) h =
          same_chosen as_ _ _ (agree_left (arms_aggregates as_) (otherwise_aggregates o) h) (same_otherwise o (agree_right (arms_aggregates as_) (otherwise_aggregates o) h))
      same_meaning (CountStar offset) h = ap Ok (h.aggregates _ (contains_first (record { aggregate = Count; offset = offset; argument = None }) []))
      same_meaning (Call aggregate offset e) h = ap Ok (h.aggregates _ (contains_first (record { aggregate = aggregate; offset = offset; argument = Some e }) []))

      same_conjunction : (es : BoundExprs) → AgreeOnCalls (all_aggregates es) one other → conjunction one role es ≡ conjunction other role es
      same_conjunction no_expr h = refl
      same_conjunction (one_expr e es) h =
          ap₂ (λ m n. unless_false (condition m) n) (same_meaning e (agree_left (aggregates e) (all_aggregates es) h)) (same_conjunction es (agree_right (aggregates e) (all_aggregates es) h))

      same_disjunction : (es : BoundExprs) → AgreeOnCalls (all_aggregates es) one other → disjunction one role es ≡ disjunction other role es
      same_disjunction no_expr h = refl
      same_disjunction (one_expr e es) h =
          ap₂ (λ m n. unless_true (condition m) n) (same_meaning e (agree_left (aggregates e) (all_aggregates es) h)) (same_disjunction es (agree_right (aggregates e) (all_aggregates es) h))

      same_chosen : (as_ : BoundArms) (m n : Outcome) → AgreeOnCalls (arms_aggregates as_) one other → m ≡ n → chosen one role as_ m ≡ chosen other role as_ n
      same_chosen no_arm m n h same = same
      same_chosen (one_arm when result as_) m n h same =
          let r = agree_right (aggregates when) (aggregates result ++ arms_aggregates as_) h in
          ap (λ w. when_true (condition w) (meaning one role result) (chosen one role as_ m)) (same_meaning when (agree_left (aggregates when) (aggregates result ++ arms_aggregates as_) h))
          ∙ ap₂ (λ x y. when_true (condition (meaning other role when)) x y) (same_meaning result (agree_left (aggregates result) (arms_aggregates as_) r)) (same_chosen as_ m n (agree_right (aggregates result) (arms_aggregates as_) r) same)

      same_otherwise : (o : BoundOtherwise) → AgreeOnCalls (otherwise_aggregates o) one other → otherwise one role o ≡ otherwise other role o
      same_otherwise Nothing h = refl
      same_otherwise (Value e) h = same_meaning e h
