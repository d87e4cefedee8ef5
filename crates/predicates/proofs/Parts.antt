-- The first of the members of a list, and the rests of all of them.
use Rattle.std.proofs.Common.{◌≡◌, ℕ, suc, ◌+◌, ◌<◌, ◌≤◌, false, List, [], ◌∷◌, length, get_or, drop, ◌==◌, Option, Some, None, option_map, slice_index_or, refl, sym, ap, ◌∙◌, arith}
use Rattle.std.specs.List.{remove}
use Rattle.expr.specs.Bound as bound
use Rattle.expr.specs.Bound.{BoundExprs, no_expr, And, Or}
use Rattle.expr.specs.Conjuncts.{members}
use Rattle.expr.specs.View.{bound_expr_of, bound_exprs}
use Rattle.expr.specs.declared.bound.BoundExpr.{BoundExpr}
use Rattle.expr.proofs.Walks.{exprs_over, exprs_step}
use Rattle.predicates.specs.Inward.{before, or_members}
use Rattle.predicates.specs.Connectives.{and_of, or_of, first_and_rest, rest_after, or_rest, rests_after, parted, by_first, factored_of}
use Rattle.predicates.proofs.Joining.{before_nothing, before_assoc}

module _ {A : Type 0} where
  -- ---- lists of one are apart

  pub and_several : (xs : List (BoundExpr A)) → (length xs ≡ 1 → ⊥) → And 0 (bound_exprs xs) ≡ and_of (bound_exprs xs)
  and_several [] h = refl
  and_several (y ∷ []) h = absurd (h refl)
  and_several (y ∷ z ∷ ys) h = refl

  pub or_several : (xs : List (BoundExpr A)) → (length xs ≡ 1 → ⊥) → Or 0 (bound_exprs xs) ≡ or_of (bound_exprs xs)
  or_several [] h = refl
  or_several (y ∷ []) h = absurd (h refl)
  or_several (y ∷ z ∷ ys) h = refl

  -- ---- the first and the others

  pub too_few : (xs : List (BoundExpr A)) → length xs < 2 → None ≡ first_and_rest (bound_exprs xs)
  too_few [] h = refl
  too_few (y ∷ []) h = refl
  too_few (y ∷ z ∷ ys) h = absurd (omega (arith, h))

  pub first_taken : (xs : List (BoundExpr A)) (x : BoundExpr A) (e f : bound.BoundExpr) → 2 ≤ length xs → x ≡ slice_index_or xs 0 x → e ≡ bound_expr_of x → f ≡ and_of (bound_exprs (remove xs 0)) → Some (e, f) ≡ first_and_rest (bound_exprs xs)
  first_taken [] x e f h is p q = absurd (omega (arith, h))
  first_taken (y ∷ []) x e f h is p q = absurd (omega (arith, h))
  first_taken (y ∷ z ∷ ys) x e f h is p q = rw (p, q, is) refl

  -- ---- how many

  pub count_members : (xs : List (BoundExpr A)) → length xs ≡ length (members (bound_exprs xs))
  count_members [] = refl
  count_members (x ∷ xs) = ap suc (count_members xs)

  -- ---- the first of all

  pub by_the_first : (xs : List (BoundExpr A)) (x : BoundExpr A) → false ≡ (length xs == 0) → x ≡ get_or xs 0 x → (p : Option (bound.BoundExpr × bound.BoundExpr)) → p ≡ parted (bound_expr_of x) → by_first p (bound_exprs xs) ≡ factored_of (bound_exprs xs)
  by_the_first [] x h is p q = absurd (cc)
  by_the_first (y ∷ ys) x h is p q = ap (λ o. by_first o (bound_exprs (y ∷ ys))) (q ∙ ap (λ z. parted (bound_expr_of z)) is)

-- ---- the rests so far, before those that are left

abbrev pub so_far : BoundExprs → Option BoundExprs → Option BoundExprs
so_far known rests = option_map (before known) rests

one_more : (known : BoundExprs) (rest : bound.BoundExpr) (rests : Option BoundExprs) → so_far (before known (or_members rest)) rests ≡ so_far known (or_rest (Some rest) rests)
one_more known rest None = refl
one_more known rest (Some es) = ap Some (before_assoc known (or_members rest) es)

nothing_before : (rests : Option BoundExprs) → so_far no_expr rests ≡ rests
nothing_before None = refl
nothing_before (Some es) = refl

module _ (a : bound.BoundExpr) {A : Type 0} (xs : List (BoundExpr A)) where
  pub rests_first : (known : List (BoundExpr A)) → known ≡ [] → so_far (bound_exprs known) (rests_after a (bound_exprs (drop 0 xs))) ≡ rests_after a (bound_exprs xs)
  rests_first known n = rw n (nothing_before (rests_after a (bound_exprs xs)))

  module _ (k : ℕ) (known : BoundExprs) (h : so_far known (rests_after a (bound_exprs (drop k xs))) ≡ rests_after a (bound_exprs xs)) where
    pub rests_over : length xs ≤ k → Some known ≡ rests_after a (bound_exprs xs)
    rests_over l = ap Some (sym (before_nothing known)) ∙ ap (λ es. so_far known (rests_after a es)) (sym (exprs_over xs k l)) ∙ h

    module _ (x : BoundExpr A) (more : k < length xs) (is : x ≡ get_or xs k x) where
      pub rests_next : (rest : bound.BoundExpr) → Some rest ≡ rest_after a (parted (bound_expr_of x)) → (new : BoundExprs) → new ≡ before known (or_members rest) → so_far new (rests_after a (bound_exprs (drop (k + 1) xs))) ≡ rests_after a (bound_exprs xs)
      rests_next rest r new n =
          ap (λ es. so_far es (rests_after a (bound_exprs (drop (k + 1) xs)))) n
          ∙ one_more known rest (rests_after a (bound_exprs (drop (k + 1) xs)))
          ∙ ap (λ o. so_far known (or_rest o (rests_after a (bound_exprs (drop (k + 1) xs))))) r
          ∙ ap (λ es. so_far known (rests_after a es)) (sym (exprs_step xs k x more is)) ∙ h

      pub no_rest : None ≡ rest_after a (parted (bound_expr_of x)) → None ≡ rests_after a (bound_exprs xs)
      no_rest r =
          ap (λ o. so_far known (or_rest o (rests_after a (bound_exprs (drop (k + 1) xs))))) r
          ∙ ap (λ es. so_far known (rests_after a es)) (sym (exprs_step xs k x more is)) ∙ h
