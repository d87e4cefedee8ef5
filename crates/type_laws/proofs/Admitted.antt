-- What type checking admits is typed by the rules.
use Rattle.std.proofs.Common.{◌≡◌, ◌⊎◌, inl, inr, ℕ, Bool, true, false, ◌&&◌, List, ◌∷◌, Option, Some, None, Result, Ok, Err, IfOk, IfSome, refl, sym, ◌∙◌}
use Rattle.std.proofs.lemmas.Option.{IfSome_then}
use Rattle.std.proofs.lemmas.Result.{IfOk-at_ok}
use Rattle.memory.specs.Results.{and_then}
use Rattle.value.specs.declared.types.ColType.TheVariants.{Boolean}
use Rattle.row_ast.specs.Ast as ast
use Rattle.expr.specs.declared.bound.ColumnId.{ColumnId}
use Rattle.expr.specs.Bound as bound
use Rattle.expr.specs.Bound.{BoundExpr, BoundOtherwise, bound_exprs_of, bound_arms_of}
use Rattle.scope.specs.declared.error.BindError.{BindError}
use Rattle.scope.specs.declared.lookup.Scope.{Scope}
use Rattle.scope.specs.Entry.{Entry}
use Rattle.scope.specs.Lookup.{find_column}
use Rattle.scope.specs.BoundExprs.{bound_expr, bound_members, bound_arms, bound_otherwise, pair}
use Rattle.typing.specs.Typing.{ArmsTyped, TypeOf, Typed, arm_type, both_arms, both_hold, case_type, common, common_of, fits, found_type, is_condition, result_type, typed, typed_arms, typed_members, typed_otherwise}
use Rattle.type_laws.specs.Rules.{IsOfFitting, IsOfType, AreConditions, ArmsFit, IsArmType, IsElseType}
use Rattle.type_laws.specs.Laws.{TypesByRules}
use Rattle.type_laws.proofs.Fitting.{fits_by_test}
use Rattle.type_laws.proofs.Commons.{IsCommon, common_fits}
use Rattle.type_laws.proofs.Parts.{fit_further}
use Rattle.type_laws.proofs.Bound.{one, two, three}
use Rattle.type_laws.proofs.Results.{both_true, ok_first, ok_or_fault, ok_then}
use Rattle.type_laws.proofs.Operations.{negation_rule, arithmetic_rule, comparison_rule, between_rule, membership_rule, null_check_rule, not_rule, cast_rule, call_rule, conditions_rule}

module _ (entries : List Entry) where
  -- a bound expression has what type checking says
  abbrev Agrees : Typed → BoundExpr → Type 0
  Agrees a x = IfOk a (IsOfType entries x)

  column_agrees : (found : Result ColumnId BindError) → IfOk (and_then found (λ id. Ok (bound.Column id))) (Agrees (Ok (found_type entries found)))
  column_agrees (Ok id) = refl
  column_agrees (Err fault) = tt

  -- ---- members

  -- where type checking has found only conditions, these are
  abbrev KnownMembers : Result Bool ℕ → List BoundExpr → Type 0
  KnownMembers known xs = IfOk known (λ holds. holds ≡ true → AreConditions entries (bound_exprs_of xs))

  member_agrees : (a : Typed) (more : Result Bool ℕ) (x : BoundExpr) (xs : List BoundExpr) → Agrees a x → KnownMembers more xs → KnownMembers (both_hold (is_condition a) more) (x ∷ xs)
  member_agrees (Ok a) (Ok holds) x xs h k = λ e. let tests = both_true (fits Boolean a) holds e in ((a, h, fits_by_test Boolean a tests.0), k tests.1)
  member_agrees (Ok a) (Err j) x xs h k = tt
  member_agrees (Err i) (Ok holds) x xs h k = tt
  member_agrees (Err i) (Err j) x xs h k = tt

  -- ---- arms

  -- the type that type checking has found is that of NULL or of one result, and those of all fit
  abbrev IsFound : List (BoundExpr × BoundExpr) → TypeOf → Type 0
  IsFound xs t = ArmsFit entries (bound_arms_of xs) t × ((t ≡ None) ⊎ IsArmType entries (bound_arms_of xs) t)

  abbrev AreFound : List (BoundExpr × BoundExpr) → Bool × Option TypeOf → Type 0
  AreFound xs p = p.0 ≡ true → IfSome p.1 (IsFound xs)

  arm_found : (x : BoundExpr × BoundExpr) (xs : List (BoundExpr × BoundExpr)) (r a c : TypeOf) → IsOfFitting (IsOfType entries x.0) (Some Boolean) → IsOfType entries x.1 r → IsFound xs a → IsCommon r a c → IsFound (x ∷ xs) c
  arm_found x xs r a c w k h m = ((w, (r, k, m.0), fit_further entries xs a c h.0 m.1), is_some_type m.2 h.1)
    where
      is_some_type : (c ≡ r) ⊎ (c ≡ a) → (a ≡ None) ⊎ IsArmType entries (bound_arms_of xs) a → (c ≡ None) ⊎ IsArmType entries (bound_arms_of (x ∷ xs)) c
      is_some_type (inl f) q = inr (inl (rw f k))
      is_some_type (inr f) (inl e) = inl (f ∙ e)
      is_some_type (inr f) (inr q) = inr (inr (rw f q))

  else_type : (xs : List (BoundExpr × BoundExpr)) (o : BoundOtherwise) (a b c : TypeOf) → (a ≡ None) ⊎ IsArmType entries (bound_arms_of xs) a → IsElseType entries o b → IsCommon a b c
      → IsArmType entries (bound_arms_of xs) c ⊎ IsElseType entries o c
  else_type xs o a b c q k (m, inr e, f) = inr (rw (sym e) k)
  else_type xs o a b c q k (m, n, inr f) = inr (rw f k)
  else_type xs o a b c (inr q) k (m, n, inl f) = inl (rw f q)
  else_type xs o a b c (inl e) k (m, inl g, inl f) = let same : b ≡ c = g ∙ sym (f ∙ e) in inr (rw (sym same) k)

  arms_and_else : (xs : List (BoundExpr × BoundExpr)) (o : BoundOtherwise) (offset : ℕ) (holds : Bool) (known : Option TypeOf) (b : TypeOf) → AreFound xs (holds, known) → IsElseType entries o b
      → IfOk (result_type offset holds known b) (IsOfType entries (bound.Case offset (bound_arms_of xs) o))
  arms_and_else xs o offset false known b h k = tt
  arms_and_else xs o offset true None b h k = tt
  arms_and_else xs o offset true (Some a) b h k =
      ok_or_fault _ offset (common a b) (IfSome_then (common a b) (common_fits a b) (λ c m. (fit_further entries xs a c (h refl).0 m.0, (b, k, m.1), else_type xs o a b c (h refl).1 k m)))

  case_agrees : (xs : List (BoundExpr × BoundExpr)) (o : BoundOtherwise) (offset : ℕ) (known : ArmsTyped) (b : Typed) → IfOk known (AreFound xs) → IfOk b (IsElseType entries o)
      → Agrees (case_type offset known b) (bound.Case offset (bound_arms_of xs) o)
  case_agrees xs o offset (Ok p) (Ok b) h k = arms_and_else xs o offset p.0 p.1 b h k
  case_agrees xs o offset (Ok p) (Err j) h k = tt
  case_agrees xs o offset (Err i) (Ok b) h k = tt
  case_agrees xs o offset (Err i) (Err j) h k = tt

  abbrev AgreesArm : Typed → Typed → BoundExpr × BoundExpr → Type 0
  AgreesArm a b x = Agrees a x.0 × Agrees b x.1

  arm_and_more : (x : BoundExpr × BoundExpr) (xs : List (BoundExpr × BoundExpr)) (w r : TypeOf) (holds : Bool) (o : Option TypeOf) → IsOfType entries x.0 w → IsOfType entries x.1 r → AreFound xs (holds, o)
      → AreFound (x ∷ xs) (fits Boolean w && holds, common_of (Some r) o)
  arm_and_more x xs w r holds None k m h = λ e. tt
  arm_and_more x xs w r holds (Some a) k m h = λ e.
      let tests = both_true (fits Boolean w) holds e in
      IfSome_then (common r a) (common_fits r a) (λ c q. arm_found x xs r a c (w, k, fits_by_test Boolean w tests.0) m (h tests.1) q)

  arm_agrees : (x : BoundExpr × BoundExpr) (xs : List (BoundExpr × BoundExpr)) (a b : Typed) (more : ArmsTyped) → AgreesArm a b x → IfOk more (AreFound xs) → IfOk (both_arms (arm_type a b) more) (AreFound (x ∷ xs))
  arm_agrees x xs (Ok w) (Ok r) (Ok p) h k = arm_and_more x xs w r p.0 p.1 h.0 h.1 k
  arm_agrees x xs (Ok w) (Err j) (Ok p) h k = tt
  arm_agrees x xs (Err i) (Ok r) (Ok p) h k = tt
  arm_agrees x xs (Err i) (Err j) (Ok p) h k = tt
  arm_agrees x xs (Ok w) (Ok r) (Err n) h k = tt
  arm_agrees x xs (Ok w) (Err j) (Err n) h k = tt
  arm_agrees x xs (Err i) (Ok r) (Err n) h k = tt
  arm_agrees x xs (Err i) (Err j) (Err n) h k = tt

  -- ---- expressions

  module _ (scope : Scope) where
    -- the bound form of an expression
    abbrev bind : ast.Expr → Result BoundExpr BindError
    bind e = bound_expr entries scope e

    abbrev type : ast.Expr → Typed
    type e = typed entries scope e

    mutual
      pub agrees : (e : ast.Expr) → IfOk (bind e) (Agrees (type e))
      agrees (ast.Column c) = column_agrees (find_column entries scope c)
      agrees (ast.Literal d) = refl
      agrees ast.CurrentUser = refl
      agrees (ast.Negate offset e) = one (Agrees (type (ast.Negate offset e))) (Agrees (type e)) (bind e) (bound.Negate offset) (agrees e) (λ x. negation_rule offset (IsOfType entries x) (type e))
      agrees (ast.Arithmetic op offset e f) =
          two (Agrees (type (ast.Arithmetic op offset e f))) (Agrees (type e)) (Agrees (type f)) (bind e) (bind f) (bound.Arithmetic op offset) (agrees e) (agrees f) (λ x y.
          arithmetic_rule offset (IsOfType entries x) (IsOfType entries y) (type e) (type f))
      agrees (ast.Comparison op offset e f) =
          two (Agrees (type (ast.Comparison op offset e f))) (Agrees (type e)) (Agrees (type f)) (bind e) (bind f) (bound.Comparison op offset) (agrees e) (agrees f) (λ x y.
          comparison_rule offset (IsOfType entries x) (IsOfType entries y) (type e) (type f))
      agrees (ast.Between negated offset e low high) =
          three (Agrees (type (ast.Between negated offset e low high))) (Agrees (type e)) (Agrees (type low)) (Agrees (type high)) (bind e) (bind low) (bind high) (bound.Between negated offset) (agrees e) (agrees low) (agrees high) (λ x y z.
          between_rule offset (IsOfType entries x) (IsOfType entries y) (IsOfType entries z) (type e) (type low) (type high))
      agrees (ast.In negated offset values e) =
          one (Agrees (type (ast.In negated offset values e))) (Agrees (type e)) (bind e) (bound.In negated offset values) (agrees e) (λ x. membership_rule offset (IsOfType entries x) (type e) values)
      agrees (ast.IsNull negated offset e) =
          one (Agrees (type (ast.IsNull negated offset e))) (Agrees (type e)) (bind e) (bound.IsNull negated offset) (agrees e) (λ x. null_check_rule offset (IsOfType entries x) (type e))
      agrees (ast.Not offset e) = one (Agrees (type (ast.Not offset e))) (Agrees (type e)) (bind e) (bound.Not offset) (agrees e) (λ x. not_rule offset (IsOfType entries x) (type e))
      agrees (ast.And offset es) =
          ok_then (KnownMembers (typed_members entries scope es)) (Agrees (type (ast.And offset es))) (bound_members entries scope es) _ (members_agree es) (λ xs.
          conditions_rule offset (AreConditions entries (bound_exprs_of xs)) (typed_members entries scope es))
      agrees (ast.Or offset es) =
          ok_then (KnownMembers (typed_members entries scope es)) (Agrees (type (ast.Or offset es))) (bound_members entries scope es) _ (members_agree es) (λ xs.
          conditions_rule offset (AreConditions entries (bound_exprs_of xs)) (typed_members entries scope es))
      agrees (ast.Cast offset to e) = one (Agrees (type (ast.Cast offset to e))) (Agrees (type e)) (bind e) (bound.Cast offset to) (agrees e) (λ x. cast_rule offset (IsOfType entries x) to (type e))
      agrees (ast.Case offset as_ o) =
          ok_then _ (Agrees (type (ast.Case offset as_ o))) (bound_arms entries scope as_) _ (arms_agree as_) (λ xs h.
          ok_then _ (Agrees (type (ast.Case offset as_ o))) (bound_otherwise entries scope o) _ (else_agrees o) (λ x k.
          case_agrees xs x offset (typed_arms entries scope as_) (typed_otherwise entries scope o) h k))
      agrees (ast.CountStar offset) = refl
      agrees (ast.Call f offset e) = one (Agrees (type (ast.Call f offset e))) (Agrees (type e)) (bind e) (bound.Call f offset) (agrees e) (λ x. call_rule offset (IsOfType entries x) f (type e))

      members_agree : (es : ast.Exprs) → IfOk (bound_members entries scope es) (KnownMembers (typed_members entries scope es))
      members_agree ast.no_expr = λ e. tt
      members_agree (ast.one_expr e es) =
          ok_first (Agrees (type e)) (KnownMembers (typed_members entries scope es)) (KnownMembers (typed_members entries scope (ast.one_expr e es))) (bind e) (bound_members entries scope es) (agrees e) (members_agree es)
          (member_agrees (type e) (typed_members entries scope es))

      arms_agree : (as_ : ast.Arms) → IfOk (bound_arms entries scope as_) (λ ys. IfOk (typed_arms entries scope as_) (AreFound ys))
      arms_agree ast.no_arm = λ e. (tt, inl refl)
      arms_agree (ast.one_arm when result as_) =
          ok_first (AgreesArm (type when) (type result)) (λ ys. IfOk (typed_arms entries scope as_) (AreFound ys)) (λ ys. IfOk (typed_arms entries scope (ast.one_arm when result as_)) (AreFound ys))
          (pair (bind when) (bind result)) (bound_arms entries scope as_)
          (two (AgreesArm (type when) (type result)) (Agrees (type when)) (Agrees (type result)) (bind when) (bind result) (λ x y. (x, y)) (agrees when) (agrees result) (λ x y h k. (h, k))) (arms_agree as_)
          (λ x xs. arm_agrees x xs (type when) (type result) (typed_arms entries scope as_))

      else_agrees : (o : ast.Otherwise) → IfOk (bound_otherwise entries scope o) (λ x. IfOk (typed_otherwise entries scope o) (IsElseType entries x))
      else_agrees ast.Nothing = refl
      else_agrees (ast.Value e) = one (λ x. IfOk (type e) (IsElseType entries x)) (Agrees (type e)) (bind e) bound.Value (agrees e) (λ x h. h)

pub types_by_rules : TypesByRules
types_by_rules entries scope e t x typed_as bound_as = IfOk-at_ok (IsOfType entries x) typed_as (IfOk-at_ok (Agrees entries (typed entries scope e)) bound_as (agrees entries scope e))
