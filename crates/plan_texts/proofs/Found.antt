-- The columns of an expression are found with its offsets as without them.
use Rattle.std.proofs.Common.{◌≡◌, ◌&&◌, Bool, List, refl, ap, ◌∙◌}
use Rattle.row_ast.specs.Ast.{Expr, Exprs, Arms, Otherwise, Column, Literal, CurrentUser, Negate, Arithmetic, Comparison, Between, In, IsNull, Not, And, Or, Cast, Case, CountStar, Call, no_expr, one_expr, no_arm, one_arm, Nothing, Value}
use Rattle.expr_texts.specs.Trees.{without_offsets, all_without_offsets, arms_without_offsets, else_without_offsets}
use Rattle.plan_texts.specs.Plans.{PlanEntry}
use Rattle.plan_texts.specs.Columns.{all_columns, members_columns, arms_columns, else_columns}
use Rattle.plan_texts.specs.Reading.{is_found}

both : (a b a' b' : Bool) → a ≡ a' → b ≡ b' → (a && b) ≡ (a' && b')
both a b a' b' p q = ap (λ x. x && b) p ∙ ap (λ y. a' && y) q

module _ (entries : List PlanEntry) where
  mutual
    pub still_found : (e : Expr) → all_columns (is_found entries) (without_offsets e) ≡ all_columns (is_found entries) e
    still_found (Column c) = refl
    still_found (Literal d) = refl
    still_found CurrentUser = refl
    still_found (Negate at e) = still_found e
    still_found (Arithmetic op at e f) = both _ _ _ _ (still_found e) (still_found f)
    still_found (Comparison op at e f) = both _ _ _ _ (still_found e) (still_found f)
    still_found (Between negated at e low high) = both _ _ _ _ (still_found e) (both _ _ _ _ (still_found low) (still_found high))
    still_found (In negated at values e) = still_found e
    still_found (IsNull negated at e) = still_found e
    still_found (Not at e) = still_found e
    still_found (And at es) = members_found es
    still_found (Or at es) = members_found es
    still_found (Cast at to e) = still_found e
    still_found (Case at as_ o) = both _ _ _ _ (arms_found as_) (else_found o)
    still_found (CountStar at) = refl
    still_found (Call f at e) = still_found e

    members_found : (es : Exprs) → members_columns (is_found entries) (all_without_offsets es) ≡ members_columns (is_found entries) es
    members_found no_expr = refl
    members_found (one_expr e es) = both _ _ _ _ (still_found e) (members_found es)

    arms_found : (as_ : Arms) → arms_columns (is_found entries) (arms_without_offsets as_) ≡ arms_columns (is_found entries) as_
    arms_found no_arm = refl
    arms_found (one_arm when result as_) = both _ _ _ _ (still_found when) (both _ _ _ _ (still_found result) (arms_found as_))

    else_found : (o : Otherwise) → else_columns (is_found entries) (else_without_offsets o) ≡ else_columns (is_found entries) o
    else_found Nothing = refl
    else_found (Value e) = still_found e
