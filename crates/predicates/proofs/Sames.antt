-- The test of two expressions by those of their nodes and operands.
use Rattle.std.proofs.Common.{◌≡◌, ℕ, suc, ◌+◌, ◌<◌, Bool, true, false, ◌&&◌, List, [], ◌∷◌, length, map, get_or, drop, Option, Some, Box, refl, sym, ap, ap₂, ◌∙◌}
use Rattle.value.specs.Datum.{datum}
use Rattle.value.specs.declared.types.Value as values
use Rattle.expr.specs.Bound.{BoundExpr, Column, Literal, CurrentUser, Negate, Arithmetic, Comparison, Between, In, IsNull, Not, And, Or, Cast, Case, CountStar, Call, BoundExprs, BoundArms, BoundOtherwise}
use Rattle.expr.specs.View.{bound_expr_of, bound_exprs, bound_arms, otherwise_of}
use Rattle.expr.specs.Weights.{weight, all_weight, arms_weight, otherwise_weight}
use Rattle.expr.specs.declared.bound.BoundExpr as lent
use Rattle.expr.specs.declared.bound.BoundArm as lent'
use Rattle.expr.proofs.Walks.{exprs_step, arms_step}
use Rattle.predicates.specs.declared.operands.Operands.TheVariants as given
use Rattle.predicates.specs.declared.operands.Operands as shown
use Rattle.predicates.specs.OperandsView.{operands_of}
use Rattle.predicates.specs.Operands.{Operands, none, one, two, three, members, arms, operands, same_node, same_values}
use Rattle.predicates.specs.Same.{of_one, of_two, of_three, of_members, of_arms, same, all_same, arms_same, otherwise_same}

pub and_true : (a b : Bool) → true ≡ a → b ≡ a && b
and_true true b t = refl
and_true false b t = cc

pub and_false : (a b : Bool) → false ≡ a → false ≡ a && b
and_false true b t = cc
and_false false b t = refl

pub and_false_right : (a b : Bool) → false ≡ b → false ≡ a && b
and_false_right true b t = t
and_false_right false b t = refl

and_itself : (a : Bool) → a ≡ a && true
and_itself true = refl
and_itself false = refl

abbrev pub same_operands : Operands → Operands → Bool
same_operands none y = true
same_operands (one e) y = of_one (same e) y
same_operands (two e f) y = of_two (same e) (same f) y
same_operands (three e f g) y = of_three (same e) (same f) (same g) y
same_operands (members es) y = of_members (all_same es) y
same_operands (arms as_ o) y = of_arms (arms_same as_) (otherwise_same o) y

parts : (e x : BoundExpr) → same e x ≡ same_node e x && same_operands (operands e) (operands x)
parts (Column id) x = and_itself (same_node (Column id) x)
parts (Literal d) x = and_itself (same_node (Literal d) x)
parts CurrentUser x = and_itself (same_node CurrentUser x)
parts (Negate offset e) x = refl
parts (Arithmetic op offset e f) x = refl
parts (Comparison op offset e f) x = refl
parts (Between negated offset e low high) x = refl
parts (In negated offset values e) x = refl
parts (IsNull negated offset e) x = refl
parts (Not offset e) x = refl
parts (And offset es) x = refl
parts (Or offset es) x = refl
parts (Cast offset to e) x = refl
parts (Case offset as_ o) x = refl
parts (CountStar offset) x = and_itself (same_node (CountStar offset) x)
parts (Call f offset e) x = refl

pub by_operands : (e x : BoundExpr) (o p : Operands) → true ≡ same_node e x → o ≡ operands e → p ≡ operands x → same_operands o p ≡ same e x
by_operands e x o p n q r = ap₂ same_operands q r ∙ and_true (same_node e x) (same_operands (operands e) (operands x)) n ∙ sym (parts e x)

-- ---- weights

abbrev pub operands_weight : Operands → ℕ
operands_weight none = 0
operands_weight (one e) = suc (weight e)
operands_weight (two e f) = suc (weight e + weight f)
operands_weight (three e f g) = suc (weight e + (weight f + weight g))
operands_weight (members es) = suc (all_weight es)
operands_weight (arms as_ o) = suc (arms_weight as_ + otherwise_weight o)

pub weights : (e : BoundExpr) → operands_weight (operands e) ≡ weight e
weights (Column id) = refl
weights (Literal d) = refl
weights CurrentUser = refl
weights (Negate offset e) = refl
weights (Arithmetic op offset e f) = refl
weights (Comparison op offset e f) = refl
weights (Between negated offset e low high) = refl
weights (In negated offset values e) = refl
weights (IsNull negated offset e) = refl
weights (Not offset e) = refl
weights (And offset es) = refl
weights (Or offset es) = refl
weights (Cast offset to e) = refl
weights (Case offset as_ o) = refl
weights (CountStar offset) = refl
weights (Call f offset e) = refl

-- ---- lists

pub values_apart : {A : Type 0} (xs ys : List (values.Value A)) → (length xs ≡ length ys → ⊥) → false ≡ same_values (map datum xs) (map datum ys)
values_apart [] [] h = absurd (h refl)
values_apart [] (y ∷ ys) h = refl
values_apart (x ∷ xs) [] h = refl
values_apart (x ∷ xs) (y ∷ ys) h = and_false_right _ _ (values_apart xs ys (λ q. h (ap suc q)))

pub exprs_apart : {A : Type 0} (xs ys : List (lent.BoundExpr A)) → (length xs ≡ length ys → ⊥) → false ≡ all_same (bound_exprs xs) (bound_exprs ys)
exprs_apart [] [] h = absurd (h refl)
exprs_apart [] (y ∷ ys) h = refl
exprs_apart (x ∷ xs) [] h = refl
exprs_apart (x ∷ xs) (y ∷ ys) h = and_false_right _ _ (exprs_apart xs ys (λ q. h (ap suc q)))

pub arms_apart : {A : Type 0} (xs ys : List (lent'.BoundArm A)) → (length xs ≡ length ys → ⊥) → false ≡ arms_same (bound_arms xs) (bound_arms ys)
arms_apart [] [] h = absurd (h refl)
arms_apart [] (y ∷ ys) h = refl
arms_apart (x ∷ xs) [] h = refl
arms_apart (x ∷ xs) (y ∷ ys) h = and_false_right _ _ (arms_apart xs ys (λ q. h (ap suc q)))

module _ {A : Type 0} (xs ys : List (lent.BoundExpr A)) (k : ℕ) (x y : lent.BoundExpr A) (m : k < length xs) (p : x ≡ get_or xs k x) (n : k < length ys) (q : y ≡ get_or ys k y) (whole : Bool) (h : all_same (bound_exprs (drop k xs)) (bound_exprs (drop k ys)) ≡ whole) where
  pub exprs_next : true ≡ same (bound_expr_of x) (bound_expr_of y) → all_same (bound_exprs (drop (k + 1) xs)) (bound_exprs (drop (k + 1) ys)) ≡ whole
  exprs_next t = and_true _ _ t ∙ sym (ap₂ all_same (exprs_step xs k x m p) (exprs_step ys k y n q)) ∙ h

module _ {A : Type 0} (xs ys : List (lent'.BoundArm A)) (k : ℕ) (x y : lent'.BoundArm A) (m : k < length xs) (p : x ≡ get_or xs k x) (n : k < length ys) (q : y ≡ get_or ys k y) (whole : Bool) (h : arms_same (bound_arms (drop k xs)) (bound_arms (drop k ys)) ≡ whole) where
  step : (same (bound_expr_of x.when) (bound_expr_of y.when) && same (bound_expr_of x.result) (bound_expr_of y.result)) && arms_same (bound_arms (drop (k + 1) xs)) (bound_arms (drop (k + 1) ys)) ≡ whole
  step = sym (ap₂ arms_same (arms_step xs k x m p) (arms_step ys k y n q)) ∙ h

  pub arms_next : true ≡ same (bound_expr_of x.when) (bound_expr_of y.when) → true ≡ same (bound_expr_of x.result) (bound_expr_of y.result) → arms_same (bound_arms (drop (k + 1) xs)) (bound_arms (drop (k + 1) ys)) ≡ whole
  arms_next t u = and_true _ _ (u ∙ and_true _ _ t) ∙ step

-- ---- ELSE

pub else_same : {A : Type 0} (x y : Option (Box (lent.BoundExpr A) A)) (b c : Box (lent.BoundExpr A) A) → x ≡ Some b → y ≡ Some c → (d e : lent.BoundExpr A) → d ≡ b.value → e ≡ c.value
    → same (bound_expr_of d) (bound_expr_of e) ≡ otherwise_same (otherwise_of x) (otherwise_of y)
else_same x y b c p q d e r s = ap₂ (λ u v. same (bound_expr_of u) (bound_expr_of v)) r s ∙ sym (ap₂ (λ u v. otherwise_same (otherwise_of u) (otherwise_of v)) p q)

-- ---- operands of another number

pub not_members : {A : Type 0} (p : BoundExprs → Bool) (r : shown.Operands A) → ((xs : _) → r ≡ given.Members xs → ⊥) → false ≡ of_members p (operands_of r)
not_members p given.None h = refl
not_members p (given.One e) h = refl
not_members p (given.Two e f) h = refl
not_members p (given.Three e f g) h = refl
not_members p (given.Members xs) h = absurd (h xs refl)
not_members p (given.Arms as_ o) h = refl

pub not_arms : {A : Type 0} (p : BoundArms → Bool) (q : BoundOtherwise → Bool) (r : shown.Operands A) → ((as_ : _) (o : _) → r ≡ given.Arms as_ o → ⊥) → false ≡ of_arms p q (operands_of r)
not_arms p q given.None h = refl
not_arms p q (given.One e) h = refl
not_arms p q (given.Two e f) h = refl
not_arms p q (given.Three e f g) h = refl
not_arms p q (given.Members xs) h = refl
not_arms p q (given.Arms as_ o) h = absurd (h as_ o refl)
