-- The views of trees with lists of children.
use Rattle.std.proofs.Common.{◌≡◌, List, [], ◌∷◌, ◌++◌, ◌∙◌, sym, ap, refl, Vec, map}
use Rattle.row_ast.specs.Ast as ast
use Rattle.row_ast.specs.View.{expr_of, row_exprs, row_arms, exprs, arms}
use Rattle.row_ast.specs.declared.expr.Expr.TheBlock.{hidden-the_row-Expr-0, hidden-the_row-Arm-1}
use Rattle.row_ast.specs.declared.expr.Arm.{Arm}
use Rattle.row_ast.specs.declared.expr.Expr.{Expr, Row_of-Expr, end_of-Expr, more_of-Expr, Row_of-Arm, end_of-Arm, more_of-Arm, items-the_row-Expr, items-the_row-Arm, items_hidden-the_row-Expr-0, items_hidden-the_row-Arm-1}

exprs_row : {A : Type 0} {n : _} (row : Row_of-Expr A n) → row_exprs row ≡ exprs (items-the_row-Expr A n row)
exprs_row end_of-Expr = refl
exprs_row (more_of-Expr e rest) = ap (ast.one_expr (expr_of e)) (exprs_row rest)

arms_row : {A : Type 0} {n : _} (row : Row_of-Arm A n) → row_arms row ≡ arms (items-the_row-Arm A n row)
arms_row end_of-Arm = refl
arms_row (more_of-Arm when result rest) = ap (ast.one_arm (expr_of when) (expr_of result)) (arms_row rest)

-- the same of the children in a `Vec`
pub exprs_hidden : {A : Type 0} (v : Vec (Expr A) A) → row_exprs (hidden-the_row-Expr-0 A v) ≡ exprs v.items
exprs_hidden {A} v = exprs_row (hidden-the_row-Expr-0 A v) ∙ ap exprs (items_hidden-the_row-Expr-0 A v)

pub arms_hidden : {A : Type 0} (v : Vec (Arm A) A) → row_arms (hidden-the_row-Arm-1 A v) ≡ arms v.items
arms_hidden {A} v = arms_row (hidden-the_row-Arm-1 A v) ∙ ap arms (items_hidden-the_row-Arm-1 A v)

list_exprs : (es : List ast.Expr) → ast.list_of (ast.exprs_of es) ≡ es
list_exprs [] = refl
list_exprs (e ∷ es) = ap (λ l. e ∷ l) (list_exprs es)

-- the members of an AND or OR in memory
pub members_hidden : {A : Type 0} (v : Vec (Expr A) A) → ast.list_of (row_exprs (hidden-the_row-Expr-0 A v)) ≡ map expr_of v.items
members_hidden v = ap ast.list_of (exprs_hidden v) ∙ list_exprs (map expr_of v.items)

-- members after members
pub appended : {A : Type 0} (ms more new : List (Expr A)) (l : List ast.Expr) → new ≡ ms ++ more → map expr_of more ≡ l → map expr_of ms ++ l ≡ map expr_of new
appended [] more new l e m = rw e (sym m)
appended (x ∷ xs) more new l e m = rw e (ap (λ es. expr_of x ∷ es) (appended xs more (xs ++ more) l refl m))

pub ruleset tree_lemmas = (exprs_hidden, arms_hidden, members_hidden)
