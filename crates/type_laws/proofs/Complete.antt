-- Type checking admits what the rules type.
use Rattle.std.proofs.Common.{◌≡◌, ◌⊎◌, inl, inr, ℕ, Bool, true, ◌&&◌, List, ◌∷◌, Option, Some, None, Result, Ok, Err, IfOk, refl, sym, ap, ap₂, ◌∙◌}
use Rattle.std.proofs.lemmas.Result.{IfOk-at_ok}
use Rattle.memory.specs.Results.{and_then}
use Rattle.memory.proofs.Cases.{ok_is}
use Rattle.value.specs.declared.types.ColType.TheVariants.{Boolean}
use Rattle.row_ast.specs.Ast as ast
use Rattle.expr.specs.declared.bound.ColumnId.{ColumnId}
use Rattle.expr.specs.Bound as bound
use Rattle.expr.specs.Bound.{BoundExpr, BoundOtherwise, bound_exprs_of, bound_arms_of}
use Rattle.scope.specs.declared.error.BindError.{BindError}
use Rattle.scope.specs.declared.lookup.Scope.{Scope}
use Rattle.scope.specs.Entry.{Entry}
use Rattle.scope.specs.Lookup.{find_column}
use Rattle.scope.specs.BoundExprs.{bound_expr, bound_members, bound_arms, bound_otherwise, pair}
use Rattle.typing.specs.Typing.{ArmsTyped, TypeOf, Typed, arm_type, both_arms, both_hold, case_type, common_or_fault, conditions_type, found_type, is_condition, typed, typed_arms, typed_members, typed_otherwise}
use Rattle.type_laws.specs.Rules.{IsFitting, IsOfFitting, IsOfType, AreConditions, ArmsFit, IsArmType, IsElseType}
use Rattle.type_laws.specs.Laws.{WhatRulesTypeIsAdmitted}
use Rattle.type_laws.proofs.Fitting.{test_passes}
use Rattle.type_laws.proofs.Commons.{have_common}
use Rattle.type_laws.proofs.Bound.{one, two, three}
use Rattle.type_laws.proofs.Results.{ok_first, ok_then}
use Rattle.type_laws.proofs.Typable.{Finds, negation_found, arithmetic_found, comparison_found, between_found, membership_found, null_check_found, not_found, cast_found, call_found}

-- what is found is one type
found_once : (P : TypeOf → Type 0) (a : Typed) → Finds P a → (b t : TypeOf) → P b → P t → b ≡ t
found_once P a h b t p q = ok_is b t (sym (h b p) ∙ h t q)

module _ (entries : List Entry) where
  -- type checking finds the types that a bound expression has by the rules
  abbrev Admits : Typed → BoundExpr → Type 0
  Admits a x = Finds (IsOfType entries x) a

  column_admitted : (found : Result ColumnId BindError) → IfOk (and_then found (λ id. Ok (bound.Column id))) (Admits (Ok (found_type entries found)))
  column_admitted (Ok id) = λ t h. ap Ok (sym h)
  column_admitted (Err fault) = tt

  -- ---- members

  abbrev MembersAdmitted : Result Bool ℕ → List BoundExpr → Type 0
  MembersAdmitted known xs = AreConditions entries (bound_exprs_of xs) → known ≡ Ok true

  member_admitted : (a : Typed) (more : Result Bool ℕ) (x : BoundExpr) (xs : List BoundExpr) → Admits a x → MembersAdmitted more xs → MembersAdmitted (both_hold (is_condition a) more) (x ∷ xs)
  member_admitted a more x xs h m = λ ((b, is_b, fit), rest). ap₂ both_hold (ap is_condition (h b is_b)) (m rest) ∙ ap (λ (holds : Bool). Ok (holds && true)) (test_passes Boolean b fit)

  conditions_admitted : (offset : ℕ) (all : Result Bool ℕ) (xs : List BoundExpr) → MembersAdmitted all xs → Finds (λ t. AreConditions entries (bound_exprs_of xs) × (t ≡ Some Boolean)) (conditions_type offset all)
  conditions_admitted offset all xs m t (c, e) = ap (conditions_type offset) (m c) ∙ ap Ok (sym e)

  -- ---- arms

  -- type checking has found a type that fits, and the type itself where some result is of it
  abbrev HasFound : ArmsTyped → List (BoundExpr × BoundExpr) → TypeOf → Type 0
  HasFound known xs t = (a : TypeOf) × (known ≡ Ok (true, Some a)) × IsFitting a t × (IsArmType entries (bound_arms_of xs) t → a ≡ t)

  abbrev ArmsAdmitted : ArmsTyped → List (BoundExpr × BoundExpr) → Type 0
  ArmsAdmitted known xs = (t : TypeOf) → ArmsFit entries (bound_arms_of xs) t → HasFound known xs t

  abbrev AdmitsArm : Typed → Typed → BoundExpr × BoundExpr → Type 0
  AdmitsArm a b x = Admits a x.0 × Admits b x.1

  arm_admitted : (w r : Typed) (more : ArmsTyped) (x : BoundExpr × BoundExpr) (xs : List (BoundExpr × BoundExpr)) → AdmitsArm w r x → ArmsAdmitted more xs → ArmsAdmitted (both_arms (arm_type w r) more) (x ∷ xs)
  arm_admitted w r more x xs h m = λ t fit. extended t fit.0 fit.1 (m t fit.2)
    where
      extended : (t : TypeOf) → IsOfFitting (IsOfType entries x.0) (Some Boolean) → IsOfFitting (IsOfType entries x.1) t → HasFound more xs t → HasFound (both_arms (arm_type w r) more) (x ∷ xs) t
      extended t (a, is_a, fit_a) (b, is_b, fit_b) (c, e, fit_c, k) =
          let n = have_common b c t fit_b fit_c in
          let parts_are = ap₂ both_arms (ap₂ arm_type (h.0 a is_a) (h.1 b is_b)) e in
          (n.0, parts_are ∙ ap₂ (λ (holds : Bool) (o : Option TypeOf). Ok (holds && true, o)) (test_passes Boolean a fit_a) n.1, n.2, λ some. n.3 (either some))
        where
          either : IsOfType entries x.1 t ⊎ IsArmType entries (bound_arms_of xs) t → (b ≡ t) ⊎ (c ≡ t)
          either (inl q) = inl (found_once (IsOfType entries x.1) r h.1 b t is_b q)
          either (inr q) = inr (k q)

  case_admitted : (offset : ℕ) (all : ArmsTyped) (other : Typed) (ys : List (BoundExpr × BoundExpr)) (o : BoundOtherwise) → ArmsAdmitted all ys → Finds (IsElseType entries o) other
      → Admits (case_type offset all other) (bound.Case offset (bound_arms_of ys) o)
  case_admitted offset all other ys o m h t (fit, (b, is_b, fit_b), one) = last (m t fit)
    where
      last : HasFound all ys t → case_type offset all other ≡ Ok t
      last (a, e, fit_a, k) =
          let n = have_common a b t fit_a fit_b in
          ap₂ (case_type offset) e (h b is_b) ∙ (ap (common_or_fault offset) n.1 ∙ ap Ok (n.3 (either one)))
        where
          either : IsArmType entries (bound_arms_of ys) t ⊎ IsElseType entries o t → (a ≡ t) ⊎ (b ≡ t)
          either (inl q) = inl (k q)
          either (inr q) = inr (found_once (IsElseType entries o) other h b t is_b q)

  -- ---- expressions

  module _ (scope : Scope) where
    abbrev bind : ast.Expr → Result BoundExpr BindError
    bind e = bound_expr entries scope e

    abbrev type : ast.Expr → Typed
    type e = typed entries scope e

    mutual
      pub admits : (e : ast.Expr) → IfOk (bind e) (Admits (type e))
      admits (ast.Column c) = column_admitted (find_column entries scope c)
      admits (ast.Literal d) = λ t h. ap Ok (sym h)
      admits ast.CurrentUser = λ t h. ap Ok (sym h)
      admits (ast.Negate offset e) = one (Admits (type (ast.Negate offset e))) (Admits (type e)) (bind e) (bound.Negate offset) (admits e) (λ x. negation_found offset (IsOfType entries x) (type e))
      admits (ast.Arithmetic op offset e f) =
          two (Admits (type (ast.Arithmetic op offset e f))) (Admits (type e)) (Admits (type f)) (bind e) (bind f) (bound.Arithmetic op offset) (admits e) (admits f) (λ x y.
          arithmetic_found offset (IsOfType entries x) (IsOfType entries y) (type e) (type f))
      admits (ast.Comparison op offset e f) =
          two (Admits (type (ast.Comparison op offset e f))) (Admits (type e)) (Admits (type f)) (bind e) (bind f) (bound.Comparison op offset) (admits e) (admits f) (λ x y.
          comparison_found offset (IsOfType entries x) (IsOfType entries y) (type e) (type f))
      admits (ast.Between negated offset e low high) =
          three (Admits (type (ast.Between negated offset e low high))) (Admits (type e)) (Admits (type low)) (Admits (type high)) (bind e) (bind low) (bind high) (bound.Between negated offset) (admits e) (admits low) (admits high) (λ x y z.
          between_found offset (IsOfType entries x) (IsOfType entries y) (IsOfType entries z) (type e) (type low) (type high))
      admits (ast.In negated offset values e) =
          one (Admits (type (ast.In negated offset values e))) (Admits (type e)) (bind e) (bound.In negated offset values) (admits e) (λ x. membership_found offset (IsOfType entries x) (type e) values)
      admits (ast.IsNull negated offset e) =
          one (Admits (type (ast.IsNull negated offset e))) (Admits (type e)) (bind e) (bound.IsNull negated offset) (admits e) (λ x. null_check_found offset (IsOfType entries x) (type e))
      admits (ast.Not offset e) = one (Admits (type (ast.Not offset e))) (Admits (type e)) (bind e) (bound.Not offset) (admits e) (λ x. not_found offset (IsOfType entries x) (type e))
      admits (ast.And offset es) =
          ok_then (MembersAdmitted (typed_members entries scope es)) (Admits (type (ast.And offset es))) (bound_members entries scope es) _ (members_admitted es) (conditions_admitted offset (typed_members entries scope es))
      admits (ast.Or offset es) =
          ok_then (MembersAdmitted (typed_members entries scope es)) (Admits (type (ast.Or offset es))) (bound_members entries scope es) _ (members_admitted es) (conditions_admitted offset (typed_members entries scope es))
      admits (ast.Cast offset to e) = one (Admits (type (ast.Cast offset to e))) (Admits (type e)) (bind e) (bound.Cast offset to) (admits e) (λ x. cast_found offset (IsOfType entries x) to (type e))
      admits (ast.Case offset as_ o) =
          ok_then (ArmsAdmitted (typed_arms entries scope as_)) (Admits (type (ast.Case offset as_ o))) (bound_arms entries scope as_) _ (arms_admitted as_) (λ xs h.
          ok_then (λ x. Finds (IsElseType entries x) (typed_otherwise entries scope o)) (Admits (type (ast.Case offset as_ o))) (bound_otherwise entries scope o) _ (else_admitted o) (λ x.
          case_admitted offset (typed_arms entries scope as_) (typed_otherwise entries scope o) xs x h))
      admits (ast.CountStar offset) = λ t h. ap Ok (sym h)
      admits (ast.Call f offset e) = one (Admits (type (ast.Call f offset e))) (Admits (type e)) (bind e) (bound.Call f offset) (admits e) (λ x. call_found offset (IsOfType entries x) f (type e))

      members_admitted : (es : ast.Exprs) → IfOk (bound_members entries scope es) (MembersAdmitted (typed_members entries scope es))
      members_admitted ast.no_expr = λ c. refl
      members_admitted (ast.one_expr e es) =
          ok_first (Admits (type e)) (MembersAdmitted (typed_members entries scope es)) (MembersAdmitted (typed_members entries scope (ast.one_expr e es))) (bind e) (bound_members entries scope es) (admits e) (members_admitted es)
          (member_admitted (type e) (typed_members entries scope es))

      arms_admitted : (as_ : ast.Arms) → IfOk (bound_arms entries scope as_) (ArmsAdmitted (typed_arms entries scope as_))
      arms_admitted ast.no_arm = λ t fit. (None, refl, inl refl, λ none. absurd none)
      arms_admitted (ast.one_arm when result as_) =
          ok_first (AdmitsArm (type when) (type result)) (ArmsAdmitted (typed_arms entries scope as_)) (ArmsAdmitted (typed_arms entries scope (ast.one_arm when result as_))) (pair (bind when) (bind result)) (bound_arms entries scope as_)
          (two (AdmitsArm (type when) (type result)) (Admits (type when)) (Admits (type result)) (bind when) (bind result) (λ x y. (x, y)) (admits when) (admits result) (λ x y h k. (h, k))) (arms_admitted as_)
          (arm_admitted (type when) (type result) (typed_arms entries scope as_))

      else_admitted : (o : ast.Otherwise) → IfOk (bound_otherwise entries scope o) (λ x. Finds (IsElseType entries x) (typed_otherwise entries scope o))
      else_admitted ast.Nothing = λ t h. ap Ok (sym h)
      else_admitted (ast.Value e) = one (λ x. Finds (IsElseType entries x) (type e)) (Admits (type e)) (bind e) bound.Value (admits e) (λ x h. h)

pub what_rules_type_is_admitted : WhatRulesTypeIsAdmitted
what_rules_type_is_admitted entries scope e t x is_of_type bound_as = IfOk-at_ok (Admits entries (typed entries scope e)) bound_as (admits entries scope e) t is_of_type
