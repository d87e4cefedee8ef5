-- The columns of a bound expression are those that its names resolve to.
use Rattle.std.proofs.Common.{◌≡◌, List, [], ◌∷◌, ◌++◌, Result, Ok, Err, refl, ap, subst, ◌∙◌}
use Rattle.std.proofs.lemmas.List.Elements.{All-append, All-cons, All-head, All-nil, All-tail}
use Rattle.std.specs.List.{All}
use Rattle.memory.proofs.Cases.{ok_is}
use Rattle.memory.specs.Results.{and_then}
use Rattle.row_ast.specs.Ast as ast
use Rattle.expr.specs.Bound as bound
use Rattle.expr.specs.Bound.{BoundExpr, BoundOtherwise, bound_arms_of, bound_exprs_of}
use Rattle.expr.specs.Columns.{all_columns, arms_columns, columns, otherwise_columns}
use Rattle.expr.specs.declared.bound.ColumnId.{ColumnId}
use Rattle.scope.specs.declared.error.BindError.{BindError}
use Rattle.scope.specs.declared.lookup.Scope.{Scope}
use Rattle.scope.specs.Entry.{Entry}
use Rattle.scope.specs.Lookup.{find_column}
use Rattle.scope.specs.BoundExprs.{bound_arms, bound_expr, bound_members, bound_otherwise, pair}
use Rattle.scope.proofs.Found.{first_given, pair_given}

-- what is given at the end was given on the way
pub given : {X Y E : Type 0} (f : X → Result Y E) (y : Y) (r : Result X E) → and_then r f ≡ Ok y → (x : X) × (r ≡ Ok x) × (f x ≡ Ok y)
given f y (Ok x) e = (x, refl, e)
given f y (Err x) e = absurd (cc)

module _ (P : ColumnId → Type 0) where
  abbrev Each : List BoundExpr → Type 0
  Each es = All (λ e. All P (columns e)) es

  abbrev EachArm : List (BoundExpr × BoundExpr) → Type 0
  EachArm as_ = All (λ a. All P (columns a.0) × All P (columns a.1)) as_

  of_members : (es : List BoundExpr) → Each es → All P (all_columns (bound_exprs_of es))
  of_members [] h = All-nil P
  of_members (e ∷ es) h = All-append P (columns e) (all_columns (bound_exprs_of es)) (All-head (λ e. All P (columns e)) e es h) (of_members es (All-tail (λ e. All P (columns e)) e es h))

  of_arms : (as_ : List (BoundExpr × BoundExpr)) → EachArm as_ → All P (arms_columns (bound_arms_of as_))
  of_arms [] h = All-nil P
  of_arms (a ∷ as_) h =
      let both = All-head (λ (a : BoundExpr × BoundExpr). All P (columns a.0) × All P (columns a.1)) a as_ h in
      All-append P (columns a.0) (columns a.1 ++ arms_columns (bound_arms_of as_)) both.0
      (All-append P (columns a.1) (arms_columns (bound_arms_of as_)) both.1 (of_arms as_ (All-tail (λ (a : BoundExpr × BoundExpr). All P (columns a.0) × All P (columns a.1)) a as_ h)))

  -- of the columns of what is bound, if it is
  abbrev Has : Result BoundExpr BindError → Type 0
  Has r = (b : BoundExpr) → r ≡ Ok b → All P (columns b)

  has_ok : (b : BoundExpr) → All P (columns b) → Has (Ok b)
  has_ok b h other e = subst (λ (b : BoundExpr). All P (columns b)) (ok_is b other e) h

  has_then : {X : Type 0} (r : Result X BindError) (f : X → Result BoundExpr BindError) → ((x : X) → r ≡ Ok x → Has (f x)) → Has (and_then r f)
  has_then r f h b e = let step = given f b r e in h step.0 step.1 b step.2

  module _ (entries : List Entry) (scope : Scope) (found : (c : ast.ColumnRef) (id : ColumnId) → find_column entries scope c ≡ Ok id → P id) where
    mutual
      pub each_found : (e : ast.Expr) → Has (bound_expr entries scope e)
      each_found (ast.Column c) = has_then (find_column entries scope c) (λ id. Ok (bound.Column id)) (λ id is. has_ok (bound.Column id) (All-cons P id [] (found c id is) (All-nil P)))
      each_found (ast.Literal d) = has_ok (bound.Literal d) (All-nil P)
      each_found ast.CurrentUser = has_ok bound.CurrentUser (All-nil P)
      each_found (ast.Negate n e) = has_then (bound_expr entries scope e) (λ x. Ok (bound.Negate n x)) (λ x is. has_ok (bound.Negate n x) (each_found e x is))
      each_found (ast.Arithmetic op n e f) = has_then (bound_expr entries scope e) _ (λ x is. has_then (bound_expr entries scope f) _
          (λ y at. has_ok (bound.Arithmetic op n x y) (All-append P (columns x) (columns y) (each_found e x is) (each_found f y at))))
      each_found (ast.Comparison op n e f) = has_then (bound_expr entries scope e) _ (λ x is. has_then (bound_expr entries scope f) _
          (λ y at. has_ok (bound.Comparison op n x y) (All-append P (columns x) (columns y) (each_found e x is) (each_found f y at))))
      each_found (ast.Between negated n e low high) = has_then (bound_expr entries scope e) _ (λ x is. has_then (bound_expr entries scope low) _ (λ y at. has_then (bound_expr entries scope high) _
          (λ z to. has_ok (bound.Between negated n x y z) (All-append P (columns x) (columns y ++ columns z) (each_found e x is) (All-append P (columns y) (columns z) (each_found low y at) (each_found high z to))))))
      each_found (ast.In negated n values e) = has_then (bound_expr entries scope e) (λ x. Ok (bound.In negated n values x)) (λ x is. has_ok (bound.In negated n values x) (each_found e x is))
      each_found (ast.IsNull negated n e) = has_then (bound_expr entries scope e) (λ x. Ok (bound.IsNull negated n x)) (λ x is. has_ok (bound.IsNull negated n x) (each_found e x is))
      each_found (ast.Not n e) = has_then (bound_expr entries scope e) (λ x. Ok (bound.Not n x)) (λ x is. has_ok (bound.Not n x) (each_found e x is))
      each_found (ast.And n es) = has_then (bound_members entries scope es) _ (λ xs is. has_ok (bound.And n (bound_exprs_of xs)) (of_members xs (each_member es xs is)))
      each_found (ast.Or n es) = has_then (bound_members entries scope es) _ (λ xs is. has_ok (bound.Or n (bound_exprs_of xs)) (of_members xs (each_member es xs is)))
      each_found (ast.Cast n to e) = has_then (bound_expr entries scope e) (λ x. Ok (bound.Cast n to x)) (λ x is. has_ok (bound.Cast n to x) (each_found e x is))
      each_found (ast.Case n as_ o) = has_then (bound_arms entries scope as_) _ (λ xs is. has_then (bound_otherwise entries scope o) _
          (λ y at. has_ok (bound.Case n (bound_arms_of xs) y) (All-append P (arms_columns (bound_arms_of xs)) (otherwise_columns y)
          (of_arms xs (each_arm as_ xs is)) (of_otherwise o y at))))
      each_found (ast.CountStar n) = has_ok (bound.CountStar n) (All-nil P)
      each_found (ast.Call f n e) = has_then (bound_expr entries scope e) (λ x. Ok (bound.Call f n x)) (λ x is. has_ok (bound.Call f n x) (each_found e x is))

      each_member : (es : ast.Exprs) → (xs : List BoundExpr) → bound_members entries scope es ≡ Ok xs → Each xs
      each_member ast.no_expr xs e = subst Each (ok_is [] xs e) (All-nil (λ e. All P (columns e)))
      each_member (ast.one_expr e es) xs is =
          let step = first_given (bound_expr entries scope e) (bound_members entries scope es) xs is in
          subst Each step.4 (All-cons (λ e. All P (columns e)) step.0 step.1 (each_found e step.0 step.2) (each_member es step.1 step.3))

      each_arm : (as_ : ast.Arms) → (xs : List (BoundExpr × BoundExpr)) → bound_arms entries scope as_ ≡ Ok xs → EachArm xs
      each_arm ast.no_arm xs e = subst EachArm (ok_is [] xs e) (All-nil (λ a. All P (columns a.0) × All P (columns a.1)))
      each_arm (ast.one_arm when result as_) xs is =
          let step = first_given (pair (bound_expr entries scope when) (bound_expr entries scope result)) (bound_arms entries scope as_) xs is in
          let arm = pair_given (bound_expr entries scope when) (bound_expr entries scope result) step.0 step.2 in
          subst EachArm (ap (λ (p : BoundExpr × BoundExpr). p ∷ step.1) arm.4 ∙ step.4)
          (All-cons (λ a. All P (columns a.0) × All P (columns a.1)) (arm.0, arm.1) step.1 (each_found when arm.0 arm.2, each_found result arm.1 arm.3) (each_arm as_ step.1 step.3))

      of_otherwise : (o : ast.Otherwise) → (b : BoundOtherwise) → bound_otherwise entries scope o ≡ Ok b → All P (otherwise_columns b)
      of_otherwise ast.Nothing b e = subst (λ (b : BoundOtherwise). All P (otherwise_columns b)) (ok_is bound.Nothing b e) (All-nil P)
      of_otherwise (ast.Value e) b is =
          let step = given (λ x. Ok (bound.Value x)) b (bound_expr entries scope e) is in
          subst (λ (b : BoundOtherwise). All P (otherwise_columns b)) (ok_is (bound.Value step.0) b step.2) (each_found e step.0 step.1)
