-- The comparison of filters with conditions.
use Rattle.std.proofs.Common.{◌≡◌, ◌≢◌, suc, Bool, true, false, ◌&&◌, List, [], ◌∷◌, length, refl, ap, ◌∙◌}
use Rattle.row_ast.specs.Ast.{Expr}
use Rattle.expr.specs.Bound.{BoundExpr}
use Rattle.scope.specs.Entry.{Entry}
use Rattle.bound_plans.specs.Filters.{is_filter, are_filters}

pub and_false : (b : Bool) → (b && false) ≡ false
and_false true = refl
and_false false = refl

-- as many filters as conditions are needed
pub not_as_many : (entries : List Entry) (fs : List Expr) (cs : List BoundExpr) → length fs ≢ length cs → are_filters entries fs cs ≡ false
not_as_many entries [] [] h = absurd (h refl)
not_as_many entries [] (c ∷ cs) h = refl
not_as_many entries (f ∷ fs) [] h = refl
not_as_many entries (f ∷ fs) (c ∷ cs) h = ap (λ b. is_filter entries f c && b) (not_as_many entries fs cs (λ e. h (ap suc e))) ∙ and_false (is_filter entries f c)
