-- The values of an expression with a type are of the type.
use Rattle.std.proofs.Common.{◌≡◌, inl, inr, ℕ, List, [], ◌∷◌, ◌++◌, Contains, Some, None, refl, sym, subst, arith}
use Rattle.std.proofs.lemmas.List.Elements.{Contains-append_left, Contains-append_right}
use Rattle.value.specs.declared.operators.Aggregate.TheVariants.{Count}
use Rattle.expr.specs.Bound.{BoundExpr, Column, Literal, CurrentUser, Negate, Arithmetic, Comparison, Between, In, IsNull, Not, And, Or, Cast, Case, CountStar, Call, BoundArms, no_arm, one_arm, BoundOtherwise, Nothing, Value}
use Rattle.expr.specs.Aggregates.{AggregateCall, aggregates, arms_aggregates, otherwise_aggregates}
use Rattle.scope.specs.Entry.{Entry}
use Rattle.eval.specs.Meaning.{Cells, Outcome, meaning, conjunction, disjunction, chosen, otherwise, condition}
use Rattle.typing.specs.Typing.{TypeOf}
use Rattle.type_laws.specs.Rules.{IsOfType, ArmsFit, IsElseType}
use Rattle.type_laws.specs.Laws.{CellsFit, GivesType}
use Rattle.type_laws.proofs.Outcomes.{gives_further, negation_gives, arithmetic_gives, comparison_gives, between_gives, membership_gives, null_check_gives, not_gives, truth_gives, cast_gives, arm_gives}

contains_first : (call : AggregateCall) (calls : List AggregateCall) → Contains (call ∷ calls) call
contains_first call calls = (0, omega arith, refl)

-- a value of another type that is the same
of_same : (a t : TypeOf) (m : Outcome) → t ≡ a → GivesType a m → GivesType t m
of_same a t m e h = subst (λ x. GivesType x m) (sym e) h

module _ (entries : List Entry) (cells : Cells) where
  fit_left : (xs ys : List AggregateCall) → CellsFit entries (xs ++ ys) cells → CellsFit entries xs cells
  fit_left xs ys h = record { columns = h.columns; aggregates = λ call c. h.aggregates call (Contains-append_left xs ys call c) }

  fit_right : (xs ys : List AggregateCall) → CellsFit entries (xs ++ ys) cells → CellsFit entries ys cells
  fit_right xs ys h = record { columns = h.columns; aggregates = λ call c. h.aggregates call (Contains-append_right xs ys call c) }

  module _ (role : List ℕ) where
    mutual
      pub gives : (x : BoundExpr) (t : TypeOf) → IsOfType entries x t → CellsFit entries (aggregates x) cells → GivesType t (meaning cells role x)
      gives (Column id) t h fit = of_same _ t (meaning cells role (Column id)) h (fit.columns id)
      gives (Literal d) t h fit = inr (sym h)
      gives CurrentUser t h fit = inr (sym h)
      gives (Negate offset e) t h fit = of_same _ t (meaning cells role (Negate offset e)) h.1 (negation_gives offset (meaning cells role e))
      gives (Arithmetic op offset e f) t h fit = of_same _ t (meaning cells role (Arithmetic op offset e f)) h.2 (arithmetic_gives op offset (meaning cells role e) (meaning cells role f))
      gives (Comparison op offset e f) t h fit = of_same _ t (meaning cells role (Comparison op offset e f)) h.3 (comparison_gives op (meaning cells role e) (meaning cells role f))
      gives (Between negated offset e low high) t h fit =
          of_same _ t (meaning cells role (Between negated offset e low high)) h.4 (between_gives negated (meaning cells role e) (meaning cells role low) (meaning cells role high))
      gives (In negated offset values e) t h fit = of_same _ t (meaning cells role (In negated offset values e)) h.3 (membership_gives negated (meaning cells role e) values)
      gives (IsNull negated offset e) t h fit = of_same _ t (meaning cells role (IsNull negated offset e)) h.2 (null_check_gives negated (meaning cells role e))
      gives (Not offset e) t h fit = of_same _ t (meaning cells role (Not offset e)) h.1 (not_gives (meaning cells role e))
      gives (And offset es) t h fit = of_same _ t (meaning cells role (And offset es)) h.1 (truth_gives (conjunction cells role es))
      gives (Or offset es) t h fit = of_same _ t (meaning cells role (Or offset es)) h.1 (truth_gives (disjunction cells role es))
      gives (Cast offset to e) t h fit = of_same _ t (meaning cells role (Cast offset to e)) h.3 (cast_gives to offset h.0 (meaning cells role e) (gives e h.0 h.1 fit) h.2)
      gives (Case offset as_ o) t h fit =
          chosen_gives as_ t (otherwise cells role o) h.0 (fit_left (arms_aggregates as_) (otherwise_aggregates o) fit)
          (gives_further h.1.0 t (otherwise cells role o) (else_gives o h.1.0 h.1.1 (fit_right (arms_aggregates as_) (otherwise_aggregates o) fit)) h.1.2)
      gives (CountStar offset) t h fit = fit.aggregates _ (contains_first (record { aggregate = Count; offset = offset; argument = None }) []) t h
      gives (Call f offset e) t h fit = fit.aggregates _ (contains_first (record { aggregate = f; offset = offset; argument = Some e }) []) t h

      chosen_gives : (as_ : BoundArms) (t : TypeOf) (rest : Outcome) → ArmsFit entries as_ t → CellsFit entries (arms_aggregates as_) cells → GivesType t rest → GivesType t (chosen cells role as_ rest)
      chosen_gives no_arm t rest h fit k = k
      chosen_gives (one_arm when result as_) t rest h fit k =
          let later = fit_right (aggregates when) (aggregates result ++ arms_aggregates as_) fit in
          arm_gives t (condition (meaning cells role when)) (meaning cells role result) (chosen cells role as_ rest)
          (gives_further h.1.0 t (meaning cells role result) (gives result h.1.0 h.1.1 (fit_left (aggregates result) (arms_aggregates as_) later)) h.1.2)
          (chosen_gives as_ t rest h.2 (fit_right (aggregates result) (arms_aggregates as_) later) k)

      else_gives : (o : BoundOtherwise) (t : TypeOf) → IsElseType entries o t → CellsFit entries (otherwise_aggregates o) cells → GivesType t (otherwise cells role o)
      else_gives Nothing t h fit = inl refl
      else_gives (Value e) t h fit = gives e t h fit
