-- The left joined entries of a problem, by what is held of it.
use Rattle.std.proofs.Common.{◌≡◌, ◌∙◌, ℕ, true, List, sym, ap, subst}
use Rattle.expr.specs.declared.code.CodeStep.{CodeStep}
use Rattle.expr.specs.Bound.{BoundExpr}
use Rattle.stats.specs.Card.{Selection, selections}
use Rattle.trailcheck.specs.Admissible.{are_left_steps}
use Rattle.left_tails.specs.Best.{IsBestTail}
use Rattle.left_tails.specs.Plans.{IsNoWorse}
use Rattle.left_tails.specs.Tails.{size_with_lefts, tail_cost}
use Rattle.code_costs.specs.Cost.{Estimates, first_left, inner_size, left_cost, whole_size}

module _ (at : Estimates) (held : List Selection) (v i : ℕ) (ons : List BoundExpr) (prepared : held ≡ selections at.statistics at.conditions) (sized : v ≡ inner_size at) (first : i ≡ first_left at) (same : ons ≡ at.lefts) where
  pub size_is : size_with_lefts at.statistics held v i ons ≡ whole_size at
  size_is =
      ap (λ os. size_with_lefts at.statistics held v i os) same
      ∙ ap (λ hs. size_with_lefts at.statistics hs v i at.lefts) prepared
      ∙ ap (λ n. size_with_lefts at.statistics (selections at.statistics at.conditions) n i at.lefts) sized
      ∙ ap (λ k. size_with_lefts at.statistics (selections at.statistics at.conditions) (inner_size at) k at.lefts) first

  pub tail_cost_is : (ss : List CodeStep) → tail_cost at.statistics held v i ons ss ≡ left_cost at ss
  tail_cost_is ss =
      ap (λ os. tail_cost at.statistics held v i os ss) same
      ∙ ap (λ hs. tail_cost at.statistics hs v i at.lefts ss) prepared
      ∙ ap (λ n. tail_cost at.statistics (selections at.statistics at.conditions) n i at.lefts ss) sized
      ∙ ap (λ k. tail_cost at.statistics (selections at.statistics at.conditions) (inner_size at) k at.lefts ss) first

  -- the best of their steps
  module _ (n : ℕ) (index : i ≡ n) (ss : List CodeStep) where
    pub may_be_left : are_left_steps i ons ss ≡ true → are_left_steps n at.lefts ss ≡ true
    may_be_left h = ap (λ os. are_left_steps n os ss) (sym same) ∙ ap (λ k. are_left_steps k ons ss) (sym index) ∙ h

    pub best_left : IsBestTail at.statistics held v i ons ss → (other : List CodeStep) → are_left_steps n at.lefts other ≡ true → IsNoWorse (left_cost at ss, ss) (left_cost at other, other)
    best_left best other h =
        let k = ap (λ os. are_left_steps i os other) same ∙ ap (λ m. are_left_steps m at.lefts other) index ∙ h in
        subst (λ c. IsNoWorse (c, ss) (left_cost at other, other)) (tail_cost_is ss) (subst (λ c. IsNoWorse (tail_cost at.statistics held v i ons ss, ss) (c, other)) (tail_cost_is other) (best other k))
