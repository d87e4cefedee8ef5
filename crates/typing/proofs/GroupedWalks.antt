-- The steps of the check of aggregates over members and arms.
use Rattle.std.proofs.Common.{◌≡◌, ℕ, ◌+◌, ◌<◌, ◌≤◌, Bool, List, length, get_or, drop, Option, Result, sym, ap, ◌∙◌}
use Rattle.row_ast.specs.Ast as ast
use Rattle.row_ast.specs.View.{expr_of, exprs, arms}
use Rattle.row_ast.specs.declared.expr.Expr.{Expr}
use Rattle.row_ast.specs.declared.expr.Arm.{Arm}
use Rattle.expr.specs.declared.bound.ColumnId.{ColumnId}
use Rattle.scope.specs.declared.lookup.Scope.{Scope}
use Rattle.scope.specs.declared.error.BindError.{BindError}
use Rattle.scope.specs.Entry.{Entry}
use Rattle.scope.specs.Lookup.{find_column}
use Rattle.row_ast.proofs.Walks.{exprs_step, exprs_over, arms_step, arms_over}
use Rattle.expr.specs.Offsets.{least_of}
use Rattle.typing.specs.Grouping.{misplaced_column, misplaced, misplaced_members, misplaced_arms}
use Rattle.expr.proofs.Leasts.{least_of_assoc, least_of_none}

module _ (entries : List Entry) (scope : Scope) (group_by : List ColumnId) (of_groups : Bool) where
  -- the misplaced parts of an expression, through an equal one
  pub misplaced_as : (e f : ast.Expr) (r : Option ℕ) → e ≡ f → r ≡ misplaced entries scope group_by of_groups f → r ≡ misplaced entries scope group_by of_groups e
  misplaced_as e f r is h = h ∙ sym (ap (misplaced entries scope group_by of_groups) is)

  pub column_is : (c : ast.ColumnRef) (found : Result ColumnId BindError) (r : Option ℕ) → found ≡ find_column entries scope c → r ≡ misplaced_column group_by of_groups c.offset found → r ≡ misplaced_column group_by of_groups c.offset (find_column entries scope c)
  column_is c found r e h = h ∙ ap (misplaced_column group_by of_groups c.offset) e

module _ (entries : List Entry) (scope : Scope) (group_by : List ColumnId) (of_groups : Bool) {A : Type 0} where
  abbrev in_members : List (Expr A) → Option ℕ
  in_members es = misplaced_members entries scope group_by of_groups (exprs es)

  abbrev in_arms : List (Arm A) → Option ℕ
  in_arms as_ = misplaced_arms entries scope group_by of_groups (arms as_)

  pub misplaced_step : (es : List (Expr A)) (k : ℕ) (e : Expr A) (more : k < length es) (is : e ≡ get_or es k e) (known new t whole : Option ℕ)
      → least_of known (misplaced_members entries scope group_by of_groups (exprs (drop k es))) ≡ whole → t ≡ misplaced entries scope group_by of_groups (expr_of e) → new ≡ least_of known t
      → least_of new (misplaced_members entries scope group_by of_groups (exprs (drop (k + 1) es))) ≡ whole
  misplaced_step es k e more is known new t whole so_far p q =
      rw (q, p)
      (least_of_assoc known (misplaced entries scope group_by of_groups (expr_of e)) (in_members (drop (k + 1) es)) ∙ ap (λ xs. least_of known (misplaced_members entries scope group_by of_groups xs)) (sym (exprs_step es k e more is)) ∙ so_far)

  pub misplaced_over : (es : List (Expr A)) (k : ℕ) (known whole : Option ℕ) → least_of known (misplaced_members entries scope group_by of_groups (exprs (drop k es))) ≡ whole → length es ≤ k → known ≡ whole
  misplaced_over es k known whole so_far l = sym (least_of_none known) ∙ ap (λ xs. least_of known (misplaced_members entries scope group_by of_groups xs)) (sym (exprs_over es k l)) ∙ so_far

  pub misplaced_arm_step : (as_ : List (Arm A)) (k : ℕ) (a : Arm A) (more : k < length as_) (is : a ≡ get_or as_ k a) (known new inner t u whole : Option ℕ)
      → least_of known (misplaced_arms entries scope group_by of_groups (arms (drop k as_))) ≡ whole → t ≡ misplaced entries scope group_by of_groups (expr_of a.when) → u ≡ misplaced entries scope group_by of_groups (expr_of a.result)
      → inner ≡ least_of t u → new ≡ least_of known inner → least_of new (misplaced_arms entries scope group_by of_groups (arms (drop (k + 1) as_))) ≡ whole
  misplaced_arm_step as_ k a more is known new inner t u whole so_far p q i r =
      rw (r, i, p, q)
      (least_of_assoc known (least_of (misplaced entries scope group_by of_groups (expr_of a.when)) (misplaced entries scope group_by of_groups (expr_of a.result))) (in_arms (drop (k + 1) as_))
      ∙ ap (λ xs. least_of known (misplaced_arms entries scope group_by of_groups xs)) (sym (arms_step as_ k a more is)) ∙ so_far)

  pub misplaced_arms_over : (as_ : List (Arm A)) (k : ℕ) (known whole : Option ℕ) → least_of known (misplaced_arms entries scope group_by of_groups (arms (drop k as_))) ≡ whole → length as_ ≤ k → known ≡ whole
  misplaced_arms_over as_ k known whole so_far l = sym (least_of_none known) ∙ ap (λ xs. least_of known (misplaced_arms entries scope group_by of_groups xs)) (sym (arms_over as_ k l)) ∙ so_far
