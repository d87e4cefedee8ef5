-- The best plan of the search, and the best steps of the left joined entries after it, are the least code.
use Rattle.std.proofs.Common.{◌≡◌, ◌∙◌, refl, sym, ap, ap₂, subst, ℕ, ◌+◌, ◌≤◌, inl, inr, true, false, List, [], ◌∷◌, ◌++◌, length, take, drop, Option, Some, None}
use Rattle.std.specs.declared.cmp.Ordering.TheVariants.{Less, Greater}
use Rattle.std.specs.Option.{IsSome}
use Rattle.std.specs.Ordering.{nat_cmp, ordering_then}
use Rattle.std.specs.Cmp.Lexicographic.{slice_cmp}
use Rattle.std.proofs.lemmas.Bool.{both_ways}
use Rattle.std.proofs.lemmas.List.{take-append-drop}
use Rattle.expr.specs.declared.code.CodeStep.{CodeStep}
use Rattle.expr.specs.Codes.{Empty, Steps, code_cmp}
use Rattle.trailcheck.specs.Admissible.{are_left_steps, is_refuted, is_admissible}
use Rattle.trailcheck.specs.Settings.{inner_count}
use Rattle.trailcheck.specs.Shapes.{inner_steps, left_steps}
use Rattle.left_tails.proofs.Before.{equal_cmp, greater_cmp}
use Rattle.left_tails.proofs.BestTails.{no_worse_with}
use Rattle.joindp.specs.declared.best.Best.{Best}
use Rattle.code_costs.specs.Best.{Problem, estimates, plan_cmp, IsLeast}
use Rattle.code_costs.specs.Cost.{cost, first_left, left_cost, steps_cost}
use Rattle.joindp.specs.Search.{Start, entry_count, plan_of, search}
use Rattle.joindp.specs.Walks.{IsNoLater, IsNoWorse, Plan, numbers, IsPath, path_cost, IsBestFrom}
use Rattle.code_costs.proofs.Codes.{code_is, inner_are, inner_many, is_code, left_are, with_tail}
use Rattle.joindp.proofs.Paths.{path_of, steps_of, cost_of_all}
use Rattle.joindp.proofs.SomeCode.{some_steps}

-- ---- two ways to say that no plan comes before another

-- numbers that are no later do not come after
not_before : (xs ys : List ℕ) → IsNoLater xs ys → slice_cmp nat_cmp ys xs ≡ Less → ⊥
not_before [] [] h k = cc
not_before [] (y ∷ ys) h k = cc
not_before (x ∷ xs) [] h k = h
not_before (x ∷ xs) (y ∷ ys) (inl a) k = let e : Greater ≡ Less = sym (ap (λ o. ordering_then o (slice_cmp nat_cmp ys xs)) (greater_cmp x y a)) ∙ k in cc
not_before (x ∷ xs) (y ∷ ys) (inr a) k = not_before xs ys a.1 (sym (ap (λ o. ordering_then o (slice_cmp nat_cmp ys xs)) (equal_cmp x y a.0)) ∙ k)

no_plan_before : (q r : Plan) → IsNoWorse q r → plan_cmp r.0 (Steps r.1) q.0 (Steps q.1) ≡ Less → ⊥
no_plan_before q r (inl a) k = let e : Greater ≡ Less = sym (ap (λ o. ordering_then o (code_cmp (Steps r.1) (Steps q.1))) (greater_cmp q.0 r.0 a)) ∙ k in cc
no_plan_before q r (inr a) k = not_before (numbers q.1) (numbers r.1) a.1 (sym (ap (λ o. ordering_then o (code_cmp (Steps r.1) (Steps q.1))) (equal_cmp q.0 r.0 a.0)) ∙ k)

-- ---- else

module _ (p : Problem) (few : entry_count p ≤ 12) (open' : is_refuted p.setting ≡ false) where
  -- there is a plan
  some_path : ((t : List CodeStep) → IsPath (search p) Start t → ⊥) → ⊥
  some_path none =
      let some = some_steps p.setting in
      none some.0 (path_of p few some.0 some.2 some.1)

  pub some_plan : {A : Type 0} (plan : Option (Best A)) → IsBestFrom (search p) Start (plan_of plan) → IsSome plan
  some_plan None best = absurd (some_path best)
  some_plan (Some b) best = refl

  -- the best steps, and the best ones of the left joined entries after them
  module _ (c : ℕ) (ss ts : List CodeStep) (best : IsBestFrom (search p) Start (Some (c, ss))) (may : are_left_steps (entry_count p) p.setting.lefts ts ≡ true) where
    many : length ss ≡ entry_count p
    many = (steps_of p few ss best.0.1).1

    pub best_is_admissible : length p.setting.lefts ≤ length p.setting.frame → is_admissible p.setting (Steps (ss ++ ts)) ≡ true
    best_is_admissible fewer = code_is p.setting (ss ++ ts) (with_tail p.setting ss ts many open' fewer (steps_of p few ss best.0.1).0 may)

    module _ (first : first_left (estimates p) ≡ entry_count p) (tail : (other : List CodeStep) → are_left_steps (entry_count p) p.setting.lefts other ≡ true → IsNoWorse (left_cost (estimates p) ts, ts) (left_cost (estimates p) other, other)) where
      -- the steps of a code cost as much as its inner ones and those of its left joined entries
      cost_of : (us : List CodeStep) → cost (estimates p) (Steps us) ≡ steps_cost (estimates p) (inner_steps p.setting us) + left_cost (estimates p) (left_steps p.setting us)
      cost_of us = ap (λ n. steps_cost (estimates p) (take n us) + left_cost (estimates p) (drop n us)) first

      cost_of_best : cost (estimates p) (Steps (ss ++ ts)) ≡ c + left_cost (estimates p) ts
      cost_of_best =
          cost_of (ss ++ ts)
          ∙ ap₂ (λ (xs ys : List CodeStep). steps_cost (estimates p) xs + left_cost (estimates p) ys) (inner_are p.setting ss ts many) (left_are p.setting ss ts many)
          ∙ ap (λ n. n + left_cost (estimates p) ts) (sym (best.0.0 ∙ cost_of_all p few ss best.0.1))

      no_worse : (us : List CodeStep) → is_admissible p.setting (Steps us) ≡ true → IsNoWorse (cost (estimates p) (Steps (ss ++ ts)), ss ++ ts) (cost (estimates p) (Steps us), us)
      no_worse us h =
          let code = is_code p.setting us h in
          let inner = inner_steps p.setting us in
          let left = left_steps p.setting us in
          let path : IsPath (search p) Start inner = path_of p few inner code.inner (inner_many p.setting us code.long) in
          let pair = no_worse_with c (path_cost (search p) Start inner) (left_cost (estimates p) ts) (left_cost (estimates p) left) ss inner ts left (many ∙ sym (inner_many p.setting us code.long)) (best.1 inner path) (tail left code.left) in
          let costs : path_cost (search p) Start inner + left_cost (estimates p) left ≡ cost (estimates p) (Steps us) = ap (λ n. n + left_cost (estimates p) left) (cost_of_all p few inner path) ∙ sym (cost_of us) in
          subst (λ n. IsNoWorse (n, ss ++ ts) (cost (estimates p) (Steps us), us)) (sym cost_of_best)
          (subst (λ n. IsNoWorse (c + left_cost (estimates p) ts, ss ++ ts) (n, us)) costs
          (subst (λ (vs : List CodeStep). IsNoWorse (c + left_cost (estimates p) ts, ss ++ ts) (path_cost (search p) Start inner + left_cost (estimates p) left, vs)) (take-append-drop (inner_count p.setting) us) pair))

      pub best_is_least : IsLeast p (cost (estimates p) (Steps (ss ++ ts))) (Steps (ss ++ ts))
      best_is_least Empty h k = both_ways (is_refuted p.setting) open' h
      best_is_least (Steps us) h k = no_plan_before (cost (estimates p) (Steps (ss ++ ts)), ss ++ ts) (cost (estimates p) (Steps us), us) (no_worse us h) k
