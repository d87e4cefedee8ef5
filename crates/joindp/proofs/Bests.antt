-- The best plan from a state is the best of a step and the best plan after it.
use Rattle.std.proofs.Common.{◌≡◌, ℕ, ◌+◌, true, false, List, [], ◌∷◌, ◌++◌, length, Option, Some, None, refl, sym, ap, ap₂, ◌∙◌, subst, arith, length-append, ◌⊎◌, inl, inr, true≢false}
use Rattle.expr.specs.declared.code.CodeStep.{CodeStep}
use Rattle.expr.specs.Codes.{step_numbers}
use Rattle.left_tails.proofs.BestTails.{step_many}
use Rattle.joindp.specs.Walks.{Walk, Plan, numbers, IsNoWorse, with_first, IsOneOf, IsPath, path_cost, IsPlan, IsBestFrom, IsBestOf, IsPick}
use Rattle.left_tails.proofs.Before.{IsNoMore, no_later_after, no_later_before, no_later_itself, no_later_through, no_more_itself, no_more_through}

-- ---- the order of plans

pub no_worse_through : (p q r : Plan) → IsNoWorse p q → IsNoWorse q r → IsNoWorse p r
no_worse_through p q r (inl a) (inl b) = inl (omega arith)
no_worse_through p q r (inl a) (inr b) = inl (omega (arith, b.0))
no_worse_through p q r (inr a) (inl b) = inl (omega (arith, a.0))
no_worse_through p q r (inr a) (inr b) = inr (a.0 ∙ b.0, no_later_through (numbers p.1) (numbers q.1) (numbers r.1) a.1 b.1)

pub no_worse_itself : (p : Plan) → IsNoWorse p p
no_worse_itself p = inr (refl, no_later_itself (numbers p.1))

-- the same step before both
no_worse_after : (k : ℕ) (c : CodeStep) (p q : Plan) → IsNoWorse p q → IsNoWorse (k + p.0, c ∷ p.1) (k + q.0, c ∷ q.1)
no_worse_after k c p q (inl a) = inl (omega arith)
no_worse_after k c p q (inr a) = inr (ap (λ n. k + n) a.0, no_later_after (step_numbers c) (numbers p.1) (numbers q.1) a.1)

-- ---- steps that are as good as others

-- a step that may come where another does, leads to the same, and costs less, or as much with numbers that are no later
pub record IsAsGood (w : Walk) (s : w.State) (d c : CodeStep) : Type 0 where
  pub allowed : w.allows s d ≡ true
  pub next : w.next s d ≡ w.next s c
  pub cost : IsNoMore (w.step_cost s d) (step_numbers d) (w.step_cost s c) (step_numbers c)

module _ (w : Walk) (s : w.State) where
  pub as_good_itself : (c : CodeStep) → w.allows s c ≡ true → IsAsGood w s c c
  as_good_itself c may = record { allowed = may; next = refl; cost = no_more_itself (w.step_cost s c) (step_numbers c) }

  pub as_good_through : (d e c : CodeStep) → IsAsGood w s d e → IsAsGood w s e c → IsAsGood w s d c
  as_good_through d e c h k = record {
    allowed = h.allowed;
    next = h.next ∙ k.next;
    cost = no_more_through (w.step_cost s d) (w.step_cost s e) (w.step_cost s c) (step_numbers d) (step_numbers e) (step_numbers c) h.cost k.cost;
  }

  module _ (d c : CodeStep) (t : List CodeStep) (good : IsAsGood w s d c) where
    -- the same steps may come after both
    path_by : IsPath w s (c ∷ t) → IsPath w s (d ∷ t)
    path_by path = (good.allowed, subst (λ n. IsPath w n t) (sym good.next) path.1)

    -- and the whole is no worse
    no_worse_by : IsNoWorse (path_cost w s (d ∷ t), d ∷ t) (path_cost w s (c ∷ t), c ∷ t)
    no_worse_by = go good.cost
      where
        rest : path_cost w (w.next s d) t ≡ path_cost w (w.next s c) t
        rest = ap (λ n. path_cost w n t) good.next

        go : IsNoMore (w.step_cost s d) (step_numbers d) (w.step_cost s c) (step_numbers c) → IsNoWorse (path_cost w s (d ∷ t), d ∷ t) (path_cost w s (c ∷ t), c ∷ t)
        go (inl a) = let r = rest in inl (omega (arith, a, r))
        go (inr a) = inr (ap₂ (λ m n. m + n) a.0 rest, no_later_before (step_numbers d) (step_numbers c) (numbers t) (step_many d ∙ sym (step_many c)) a.1)

-- ---- lists of first steps

-- an element of a list with one more at its end is of the list, or that one
one_more_of : (ds : List CodeStep) (d c : CodeStep) → IsOneOf (ds ++ d ∷ []) c → IsOneOf ds c ⊎ (d ≡ c)
one_more_of [] d c (inl e) = inr e
one_more_of [] d c (inr h) = absurd h
one_more_of (x ∷ ds) d c (inl e) = inl (inl e)
one_more_of (x ∷ ds) d c (inr h) = at (one_more_of ds d c h)
  where
    at : IsOneOf ds c ⊎ (d ≡ c) → IsOneOf (x ∷ ds) c ⊎ (d ≡ c)
    at (inl a) = inl (inr a)
    at (inr b) = inr b

module _ (w : Walk) where
  -- no step yet
  pub best_of_none : (s : w.State) → IsBestOf w [] s None
  best_of_none s c t h k = absurd h

  -- a step before the best rest is the best of the paths with that step
  module _ (s : w.State) (d : CodeStep) (allowed : w.allows s d ≡ true) where
    pub after_is_plan : (q : Plan) → IsPlan w (w.next s d) q → IsPlan w s (w.step_cost s d + q.0, d ∷ q.1)
    after_is_plan q h = (ap (λ n. w.step_cost s d + n) h.0, (allowed, h.1))

    no_path : IsBestFrom w (w.next s d) None → (c : CodeStep) (t : List CodeStep) → d ≡ c → IsPath w s (c ∷ t) → ⊥
    no_path h c t e path = h t (subst (λ x. IsPath w (w.next s x) t) (sym e) path.1)

    no_better : (q : Plan) → IsBestFrom w (w.next s d) (Some q) → (c : CodeStep) (t : List CodeStep) → d ≡ c → IsPath w s (c ∷ t) → IsNoWorse (w.step_cost s d + q.0, d ∷ q.1) (path_cost w s (c ∷ t), c ∷ t)
    no_better q h c t e path =
        subst (λ x. IsNoWorse (w.step_cost s d + q.0, d ∷ q.1) (path_cost w s (x ∷ t), x ∷ t)) e (no_worse_after (w.step_cost s d) d q (path_cost w (w.next s d) t, t) (h.1 t (subst (λ x. IsPath w (w.next s x) t) (sym e) path.1)))

    -- one more step, with the best plan after it
    pub best_more : (ds : List CodeStep) (o r b : Option Plan) → IsBestOf w ds s o → IsBestFrom w (w.next s d) b → IsPick o (with_first (w.step_cost s d) d b) r → IsBestOf w (ds ++ d ∷ []) s r
    best_more ds None r None h after pick = subst (IsBestOf w (ds ++ d ∷ []) s) (sym pick) (λ c t one path. at c t path (one_more_of ds d c one))
      where
        at : (c : CodeStep) (t : List CodeStep) → IsPath w s (c ∷ t) → IsOneOf ds c ⊎ (d ≡ c) → ⊥
        at c t path (inl a) = h c t a path
        at c t path (inr e) = no_path after c t e path
    best_more ds None r (Some x) h after pick = subst (IsBestOf w (ds ++ d ∷ []) s) (sym pick) (after_is_plan x after.0, λ c t one path. at c t path (one_more_of ds d c one))
      where
        at : (c : CodeStep) (t : List CodeStep) → IsPath w s (c ∷ t) → IsOneOf ds c ⊎ (d ≡ c) → IsNoWorse (w.step_cost s d + x.0, d ∷ x.1) (path_cost w s (c ∷ t), c ∷ t)
        at c t path (inl a) = absurd (h c t a path)
        at c t path (inr e) = no_better x after c t e path
    best_more ds (Some q) r None h after pick = subst (IsBestOf w (ds ++ d ∷ []) s) (sym pick) (h.0, λ c t one path. at c t path (one_more_of ds d c one))
      where
        at : (c : CodeStep) (t : List CodeStep) → IsPath w s (c ∷ t) → IsOneOf ds c ⊎ (d ≡ c) → IsNoWorse q (path_cost w s (c ∷ t), c ∷ t)
        at c t path (inl a) = h.1 c t a path
        at c t path (inr e) = absurd (no_path after c t e path)
    best_more ds (Some q) r (Some x) h after (inl pick) = subst (IsBestOf w (ds ++ d ∷ []) s) (sym pick.0) (h.0, λ c t one path. at c t path (one_more_of ds d c one))
      where
        at : (c : CodeStep) (t : List CodeStep) → IsPath w s (c ∷ t) → IsOneOf ds c ⊎ (d ≡ c) → IsNoWorse q (path_cost w s (c ∷ t), c ∷ t)
        at c t path (inl a) = h.1 c t a path
        at c t path (inr e) = no_worse_through q (w.step_cost s d + x.0, d ∷ x.1) (path_cost w s (c ∷ t), c ∷ t) pick.1 (no_better x after c t e path)
    best_more ds (Some q) r (Some x) h after (inr pick) = subst (IsBestOf w (ds ++ d ∷ []) s) (sym pick.0) (after_is_plan x after.0, λ c t one path. at c t path (one_more_of ds d c one))
      where
        at : (c : CodeStep) (t : List CodeStep) → IsPath w s (c ∷ t) → IsOneOf ds c ⊎ (d ≡ c) → IsNoWorse (w.step_cost s d + x.0, d ∷ x.1) (path_cost w s (c ∷ t), c ∷ t)
        at c t path (inl a) = no_worse_through (w.step_cost s d + x.0, d ∷ x.1) q (path_cost w s (c ∷ t), c ∷ t) pick.1 (h.1 c t a path)
        at c t path (inr e) = no_better x after c t e path

  -- each step that is allowed has one among the first ones that is as good, and the state is not the end
  pub best_of_all : (ds : List CodeStep) (s : w.State) (o : Option Plan) → w.is_done s ≡ false → ((c : CodeStep) → w.allows s c ≡ true → (d : CodeStep) × IsOneOf ds d × IsAsGood w s d c) → IsBestOf w ds s o → IsBestFrom w s o
  best_of_all ds s None open' all h = λ t path. at t path
    where
      first : (c : CodeStep) (t : List CodeStep) → IsPath w s (c ∷ t) → (d : CodeStep) × IsOneOf ds d × IsAsGood w s d c → ⊥
      first c t path (d, one, good) = h d t one (path_by w s d c t good path)

      at : (t : List CodeStep) → IsPath w s t → ⊥
      at [] path = true≢false (sym path ∙ open')
      at (c ∷ t) path = first c t path (all c path.0)
  best_of_all ds s (Some q) open' all h = (h.0, λ t path. at t path)
    where
      first : (c : CodeStep) (t : List CodeStep) → IsPath w s (c ∷ t) → (d : CodeStep) × IsOneOf ds d × IsAsGood w s d c → IsNoWorse q (path_cost w s (c ∷ t), c ∷ t)
      first c t path (d, one, good) =
          no_worse_through q (path_cost w s (d ∷ t), d ∷ t) (path_cost w s (c ∷ t), c ∷ t) (h.1 d t one (path_by w s d c t good path)) (no_worse_by w s d c t good)

      at : (t : List CodeStep) → IsPath w s t → IsNoWorse q (path_cost w s t, t)
      at [] path = absurd (true≢false (sym path ∙ open'))
      at (c ∷ t) path = first c t path (all c path.0)

  -- at the end no step is left
  pub best_at_end : (s : w.State) → w.is_done s ≡ true → ((c : CodeStep) → w.allows s c ≡ false) → IsBestFrom w s (Some (w.last_cost s, []))
  best_at_end s done none = ((refl, done), λ t path. at t path)
    where
      at : (t : List CodeStep) → IsPath w s t → IsNoWorse (w.last_cost s, []) (path_cost w s t, t)
      at [] path = no_worse_itself (w.last_cost s, [])
      at (c ∷ t) path = absurd (true≢false (sym path.0 ∙ none c))
