-- The steps of binding, and its end.
use Rattle.std.proofs.Common.{◌≡◌, ℕ, ◌+◌, ◌<◌, ◌≤◌, List, [], ◌∷◌, ◌++◌, length, map, get_or, drop, Some, None, Result, Ok, Err, Vec, Box, refl, sym, ap, ◌∙◌}
use Rattle.std.specs.Result.{MatchResult}
use Rattle.std.proofs.lemmas.List.{append-nil, map-append}
use Rattle.memory.specs.Gives.{Gives}
use Rattle.memory.specs.declared.failure.Failure.{Failure}
use Rattle.memory.specs.declared.failure.Failure.TheVariants as failure
use Rattle.row_ast.specs.Ast.{Expr as Ast}
use Rattle.row_ast.specs.View.{expr_of, exprs, arms}
use Rattle.row_ast.specs.declared.expr.Expr.{Expr}
use Rattle.row_ast.specs.declared.expr.Arm.{Arm}
use Rattle.expr.specs.Bound as bound
use Rattle.expr.specs.Bound.{BoundExpr, BoundExprs, BoundArms}
use Rattle.expr.specs.View.{bound_expr_of, bound_arm_pair}
use Rattle.expr.specs.declared.bound.BoundExpr as code
use Rattle.expr.specs.declared.bound.BoundExpr.{Case, And, Or}
use Rattle.expr.specs.declared.bound.BoundArm as code_arm
use Rattle.expr.proofs.Trees.{bound_exprs_hidden, bound_arms_hidden}
use Rattle.row_ast.proofs.Walks.{exprs_step, exprs_over, arms_step, arms_over}
use Rattle.scope.specs.declared.error.BindError.{BindError}
use Rattle.scope.specs.declared.lookup.Scope.{Scope}
use Rattle.scope.specs.Entry.{Entry}
use Rattle.memory.specs.Results.{and_then, first_then}
use Rattle.memory.proofs.Each.{after, after_first}
use Rattle.scope.specs.BoundExprs as spec
use Rattle.scope.specs.BoundExprs.{bound_expr, bound_members, bound_arms, pair}

-- the result for an expression, through an equal one
module _ (entries : List Entry) (scope : Scope) {A : Type 0} (r : Result (Box (code.BoundExpr A) A) (Failure BindError)) where
  pub bound_as : (e f : Ast) → e ≡ f → Gives (λ b. bound_expr_of b.value) r (bound_expr entries scope f) → Gives (λ b. bound_expr_of b.value) r (bound_expr entries scope e)
  bound_as e f is h = rw is h

-- the known part with one more, and then the rest
grown_then : {X E : Type 0} (s : Result X E) (known : List X) (rest : Result (List X) E) → and_then (and_then s (λ x. Ok (known ++ x ∷ []))) (λ new. after new rest) ≡ after known (first_then s rest)
grown_then (Ok x) known rest = sym (after_first known x rest)
grown_then (Err e) known rest = refl

module _ (entries : List Entry) (scope : Scope) {A : Type 0} where
  module _ (es : List (Expr A)) (k : ℕ) where
    pub members_over : (known : List BoundExpr) (whole : Result (List BoundExpr) BindError) → after known (bound_members entries scope (exprs (drop k es))) ≡ whole → length es ≤ k → whole ≡ Ok known
    members_over known whole so_far l = sym so_far ∙ ap (λ xs. after known (bound_members entries scope xs)) (exprs_over es k l) ∙ ap Ok (append-nil known)

    module _ (e : Expr A) (more : k < length es) (is : e ≡ get_or es k e) (known : List BoundExpr) (whole : Result (List BoundExpr) BindError) (so_far : after known (bound_members entries scope (exprs (drop k es))) ≡ whole) where
      pub members_opened : and_then (and_then (bound_expr entries scope (expr_of e)) (λ x. Ok (known ++ x ∷ []))) (λ new. after new (bound_members entries scope (exprs (drop (k + 1) es)))) ≡ whole
      members_opened =
          grown_then (bound_expr entries scope (expr_of e)) known (bound_members entries scope (exprs (drop (k + 1) es))) ∙ ap (λ xs. after known (bound_members entries scope xs)) (sym (exprs_step es k e more is)) ∙ so_far

      pub members_next : (new : List BoundExpr) → and_then (bound_expr entries scope (expr_of e)) (λ x. Ok (known ++ x ∷ [])) ≡ Ok new → after new (bound_members entries scope (exprs (drop (k + 1) es))) ≡ whole
      members_next new h = ap (λ r. and_then r (λ new. after new (bound_members entries scope (exprs (drop (k + 1) es))))) (sym h) ∙ members_opened

  module _ (as_ : List (Arm A)) (k : ℕ) where
    pub arms_bound_over : (known : List (BoundExpr × BoundExpr)) (whole : Result (List (BoundExpr × BoundExpr)) BindError) → after known (bound_arms entries scope (arms (drop k as_))) ≡ whole → length as_ ≤ k → whole ≡ Ok known
    arms_bound_over known whole so_far l = sym so_far ∙ ap (λ xs. after known (bound_arms entries scope xs)) (arms_over as_ k l) ∙ ap Ok (append-nil known)

    module _ (a : Arm A) (more : k < length as_) (is : a ≡ get_or as_ k a) (known : List (BoundExpr × BoundExpr)) (whole : Result (List (BoundExpr × BoundExpr)) BindError) (so_far : after known (bound_arms entries scope (arms (drop k as_))) ≡ whole) where
      pub arms_opened : and_then (and_then (pair (bound_expr entries scope (expr_of a.when)) (bound_expr entries scope (expr_of a.result))) (λ p. Ok (known ++ p ∷ []))) (λ new. after new (bound_arms entries scope (arms (drop (k + 1) as_)))) ≡ whole
      arms_opened =
          grown_then (pair (bound_expr entries scope (expr_of a.when)) (bound_expr entries scope (expr_of a.result))) known (bound_arms entries scope (arms (drop (k + 1) as_)))
          ∙ ap (λ xs. after known (bound_arms entries scope xs)) (sym (arms_step as_ k a more is)) ∙ so_far

      pub arms_next : (new : List (BoundExpr × BoundExpr)) → and_then (pair (bound_expr entries scope (expr_of a.when)) (bound_expr entries scope (expr_of a.result))) (λ p. Ok (known ++ p ∷ [])) ≡ Ok new → after new (bound_arms entries scope (arms (drop (k + 1) as_))) ≡ whole
      arms_next new h = ap (λ r. and_then r (λ new. after new (bound_arms entries scope (arms (drop (k + 1) as_))))) (sym h) ∙ arms_opened

-- ---- one more, as it is viewed, unless it failed or memory ran out

pub extended_given : {T Z E : Type 0} (v : T → Z) (all : List T) (next : Result T (Failure E)) (s : Result Z E) (r : Result (List T) (Failure E))
    → MatchResult next (λ x. MatchResult r (λ l. l ≡ all ++ x ∷ []) (λ e. e ≡ failure.OutOfMemory)) (λ e. r ≡ Err e) → Gives v next s → Gives (λ l. map v l) r (and_then s (λ z. Ok (map v all ++ z ∷ [])))
extended_given v all (Ok x) s (Ok l) n h = rw (h, n, map-append) refl
extended_given v all (Ok x) s (Err e) n h = rw n tt
extended_given v all (Err (failure.Error fault)) s r n h = rw (n, h) refl
extended_given v all (Err failure.OutOfMemory) s r n h = rw n tt

-- ---- nodes with members that are made of their parts

module _ {A : Type 0} (offset : ℕ) (v : Vec (code.BoundExpr A) A) (stated : Result (List BoundExpr) BindError) (members_are : stated ≡ Ok (map bound_expr_of v.items)) (b : code.BoundExpr A) where
  pub and_made : b ≡ And offset v → spec.conjunction offset stated ≡ Ok (bound_expr_of b)
  and_made is = rw (members_are, is) (ap (λ (xs : BoundExprs). let r : Result BoundExpr BindError = Ok (bound.And offset xs) in r) (sym (bound_exprs_hidden v)))

  pub or_made : b ≡ Or offset v → spec.disjunction offset stated ≡ Ok (bound_expr_of b)
  or_made is = rw (members_are, is) (ap (λ (xs : BoundExprs). let r : Result BoundExpr BindError = Ok (bound.Or offset xs) in r) (sym (bound_exprs_hidden v)))

module _ {A : Type 0} (offset : ℕ) (v : Vec (code_arm.BoundArm A) A) (stated : Result (List (BoundExpr × BoundExpr)) BindError) (arms_are : stated ≡ Ok (map bound_arm_pair v.items)) where
  pub none_made : (b : code.BoundExpr A) → b ≡ Case offset v None → spec.choice offset stated (Ok bound.Nothing) ≡ Ok (bound_expr_of b)
  none_made b is = rw (arms_are, is) (ap (λ (xs : BoundArms). let r : Result BoundExpr BindError = Ok (bound.Case offset xs bound.Nothing) in r) (sym (bound_arms_hidden v)))

  pub some_made : (last : Result BoundExpr BindError) (p : Box (code.BoundExpr A) A) → last ≡ Ok (bound_expr_of p.value) → (b : code.BoundExpr A) → b ≡ Case offset v (Some p) → spec.choice offset stated (spec.as_otherwise last) ≡ Ok (bound_expr_of b)
  some_made last p l b is =
      rw (arms_are, l, is) (ap (λ (xs : BoundArms). let r : Result BoundExpr BindError = Ok (bound.Case offset xs (bound.Value (bound_expr_of p.value))) in r) (sym (bound_arms_hidden v)))

  pub otherwise_failed : {X Z : Type 0} (w : X → BoundExpr) (z : Z → BoundExpr) (e : Failure BindError) (last : Result BoundExpr BindError) → Gives w (Err e) last → Gives z (Err e) (spec.choice offset stated (spec.as_otherwise last))
  otherwise_failed w z (failure.Error fault) last h = rw (arms_are, h) refl
  otherwise_failed w z failure.OutOfMemory last h = tt
