-- The movable conjuncts of the conditions of a query, which the grammar made, have texts.
use Rattle.std.proofs.Common.{◌≡◌, ◌≤◌, ℕ, ◌+◌, Bool, true, false, cond, List, [], ◌∷◌, filter, Option, Some, None, Ok, refl, sym, ap, subst, ◌∙◌, arith}
use Rattle.std.specs.List.{All, flat_map}
use Rattle.std.specs.Prelude.{option_to_list}
use Rattle.std.proofs.lemmas.List.Elements.{All-append, All-cons, All-head, All-nil, All-tail}
use Rattle.memory.proofs.Cases.{ok_is}
use Rattle.row_ast.specs.Ast as ast
use Rattle.row_ast.specs.Ast.{Expr, Exprs, no_expr, one_expr}
use Rattle.expr.specs.declared.bound.ColumnId.{ColumnId}
use Rattle.expr.specs.Bound as bound
use Rattle.expr.specs.Bound.{BoundExpr, bound_exprs_of}
use Rattle.expr.specs.Conjuncts.{conjuncts_in, conjuncts_of, members}
use Rattle.expr.specs.Movable.{movable}
use Rattle.scope.specs.declared.lookup.Scope.{Scope}
use Rattle.scope.specs.Entry.{Entry}
use Rattle.scope.specs.Lookup.{find_column, on_scope}
use Rattle.scope.specs.BoundExprs.{bound_expr, bound_members}
use Rattle.scope.proofs.Found.{first_given}
use Rattle.resolve.specs.BoundQueries.{bound_condition, bound_ons}
use Rattle.resolve.proofs.EntryTables.{given}
use Rattle.bound_plans.specs.Named.{name_of, named}
use Rattle.expr_texts.specs.Filters.{IsNamed, filter_levels, is_and, levels, most_levels}
use Rattle.plan_laws.specs.Said.{IsSaid}
use Rattle.plan_laws.proofs.Grown.{AreGrown, IsGrown}
use Rattle.plan_laws.proofs.BoundTrees.{IsSaidAs, expr_said}
use Rattle.plan_laws.proofs.GrownQueries.{IsGrownCondition}
use Rattle.plan_laws.proofs.Rules.{Each, If}

members_are : (xs : List BoundExpr) → members (bound_exprs_of xs) ≡ xs
members_are [] = refl
members_are (x ∷ xs) = ap (λ l. x ∷ l) (members_are xs)

module _ (entries : List Entry) where
  -- it has a text, if it cannot fault
  abbrev pub IsSaidIfMovable : BoundExpr → Type 0
  IsSaidIfMovable x = movable x ≡ true → IsSaid entries x

  pub movable_said : (xs : List BoundExpr) → All IsSaidIfMovable xs → All (IsSaid entries) (filter movable xs)
  movable_said [] h = All-nil (IsSaid entries)
  movable_said (x ∷ xs) h = go (movable x) (All-head IsSaidIfMovable x xs h) (movable_said xs (All-tail IsSaidIfMovable x xs h))
    where
      go : (b : Bool) → (b ≡ true → IsSaid entries x) → All (IsSaid entries) (filter movable xs) → All (IsSaid entries) (cond b (x ∷ filter movable xs) (filter movable xs))
      go true it more = All-cons (IsSaid entries) x (filter movable xs) (it refl) more
      go false it more = more

  pub each_of : {X : Type 0} (f : X → List BoundExpr) (xs : List X) → All (λ x. All IsSaidIfMovable (f x)) xs → All IsSaidIfMovable (flat_map f xs)
  each_of {X} f [] h = All-nil IsSaidIfMovable
  each_of {X} f (x ∷ xs) h =
      All-append IsSaidIfMovable (f x) (flat_map f xs) (All-head (λ x. All IsSaidIfMovable (f x)) x xs h) (each_of f xs (All-tail (λ x. All IsSaidIfMovable (f x)) x xs h))

  of_text : (e : Expr) (x : BoundExpr) → IsSaidAs entries e x → IsGrown e → levels e ≤ filter_levels → IsSaidIfMovable x
  of_text e x it g low m = let flat = it.flat in record { written = it.written g m; shallow = omega arith; utf8 = it.utf8 g m }

  not_and : (x : BoundExpr) → is_and (named entries x) ≡ false → conjuncts_of x ≡ x ∷ []
  not_and (bound.And n xs) h = absurd (cc)
  not_and x h = refl

  alone : (e : Expr) (x : BoundExpr) → is_and e ≡ false → IsSaidAs entries e x → IsGrown e → levels e ≤ filter_levels → All IsSaidIfMovable (conjuncts_of x)
  alone e x other it g low =
      subst (All IsSaidIfMovable) (sym (not_and x (it.same_and ∙ other))) (All-cons IsSaidIfMovable x [] (of_text e x it g low) (All-nil IsSaidIfMovable))

  module _ (found : (scope : Scope) (c : ast.ColumnRef) (id : ColumnId) → find_column entries scope c ≡ Ok id → IsNamed (name_of entries id).table (name_of entries id).name) where
    members_said : (scope : Scope) (ms : Exprs) (xs : List BoundExpr) → bound_members entries scope ms ≡ Ok xs → AreGrown is_and ms → most_levels ms ≤ filter_levels → All IsSaidIfMovable xs
    members_said scope no_expr xs is g low = subst (All IsSaidIfMovable) (ok_is [] xs is) (All-nil IsSaidIfMovable)
    members_said scope (one_expr m ms) xs is g low =
        let step = first_given (bound_expr entries scope m) (bound_members entries scope ms) xs is in
        subst (All IsSaidIfMovable) step.4
        (All-cons IsSaidIfMovable step.0 step.1 (of_text m step.0 (expr_said entries scope (found scope) m step.0 step.2) g.1 (omega arith)) (members_said scope ms step.1 step.3 g.2 (omega arith)))

    -- each conjunct of a condition
    conjuncts_said : (scope : Scope) (e : Expr) (x : BoundExpr) → bound_expr entries scope e ≡ Ok x → IsGrown e → levels e ≤ filter_levels → All IsSaidIfMovable (conjuncts_of x)
    conjuncts_said scope (ast.And n ms) x is g low =
        let step = given (λ xs. Ok (bound.And n (bound_exprs_of xs))) x (bound_members entries scope ms) is in
        let those : All IsSaidIfMovable step.0 = members_said scope ms step.0 step.1 g.1 (omega arith) in
        subst (λ x. All IsSaidIfMovable (conjuncts_of x)) (ok_is (bound.And n (bound_exprs_of step.0)) x step.2) (subst (All IsSaidIfMovable) (sym (members_are step.0)) those)
    conjuncts_said scope e x is g low = alone e x refl (expr_said entries scope (found scope) e x is) g low

    pub condition_said : (scope : Scope) (o : Option ast.Condition) (x : Option BoundExpr) → If IsGrownCondition o → bound_condition entries scope o ≡ Ok x → All IsSaidIfMovable (conjuncts_in x)
    condition_said scope None x g is = subst (λ (x : Option BoundExpr). All IsSaidIfMovable (conjuncts_in x)) (ok_is None x is) (All-nil IsSaidIfMovable)
    condition_said scope (Some c) x g is =
        let step = given (λ e. Ok (Some e)) x (bound_expr entries scope c.predicate) is in
        subst (λ (x : Option BoundExpr). All IsSaidIfMovable (conjuncts_in x)) (ok_is (Some step.0) x step.2) (conjuncts_said scope c.predicate step.0 step.1 g.grown g.shallow)

    -- the condition itself
    whole_said : (scope : Scope) (o : Option ast.Condition) (x : Option BoundExpr) → If IsGrownCondition o → bound_condition entries scope o ≡ Ok x → All IsSaidIfMovable (option_to_list x)
    whole_said scope None x g is = subst (λ (x : Option BoundExpr). All IsSaidIfMovable (option_to_list x)) (ok_is None x is) (All-nil IsSaidIfMovable)
    whole_said scope (Some c) x g is =
        let step = given (λ e. Ok (Some e)) x (bound_expr entries scope c.predicate) is in
        subst (λ (x : Option BoundExpr). All IsSaidIfMovable (option_to_list x)) (ok_is (Some step.0) x step.2)
        (All-cons IsSaidIfMovable step.0 [] (of_text c.predicate step.0 (expr_said entries scope (found scope) c.predicate step.0 step.1) g.grown g.shallow) (All-nil IsSaidIfMovable))

    -- what is said of the parts of each condition is said of those of the ON of each entry
    module _ (parts : Option BoundExpr → List BoundExpr) (said : (scope : Scope) (o : Option ast.Condition) (x : Option BoundExpr) → If IsGrownCondition o → bound_condition entries scope o ≡ Ok x → All IsSaidIfMovable (parts x)) where
      each_on_said : (n : ℕ) (es : List Entry) (ons : List (Option BoundExpr)) → Each (λ e. If IsGrownCondition e.on) es → bound_ons entries n es ≡ Ok ons → All (λ o. All IsSaidIfMovable (parts o)) ons
      each_on_said n [] ons g is = let P : Option BoundExpr → Type 0 = λ o. All IsSaidIfMovable (parts o) in subst (All P) (ok_is [] ons is) (All-nil P)
      each_on_said n (e ∷ es) ons g is =
          let P : Option BoundExpr → Type 0 = λ o. All IsSaidIfMovable (parts o) in
          let step = first_given (bound_condition entries (on_scope n e) e.on) (bound_ons entries (n + 1) es) ons is in
          subst (All P) step.4 (All-cons P step.0 step.1 (said (on_scope n e) e.on step.0 g.0 step.2) (each_on_said (n + 1) es step.1 g.1 step.3))

    -- each conjunct of the ON of each entry
    pub ons_said : (n : ℕ) (es : List Entry) (ons : List (Option BoundExpr)) → Each (λ e. If IsGrownCondition e.on) es → bound_ons entries n es ≡ Ok ons → All (λ o. All IsSaidIfMovable (conjuncts_in o)) ons
    ons_said = each_on_said conjuncts_in condition_said

    -- and each ON
    pub whole_ons_said : (n : ℕ) (es : List Entry) (ons : List (Option BoundExpr)) → Each (λ e. If IsGrownCondition e.on) es → bound_ons entries n es ≡ Ok ons → All (λ o. All IsSaidIfMovable (option_to_list o)) ons
    whole_ons_said = each_on_said option_to_list whole_said
