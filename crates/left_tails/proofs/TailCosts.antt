-- The cost of the steps of left joined entries: that of the first, and of the others.
use Rattle.std.proofs.Common.{◌≡◌, ◌∙◌, ℕ, suc, ◌+◌, List, ◌∷◌, ap₂, sym}
use Rattle.expr.specs.declared.code.CodeStep.{CodeStep}
use Rattle.expr.specs.Bound.{BoundExpr}
use Rattle.stats.specs.Card.{Selection, rows_at}
use Rattle.stats.specs.Statistics.{Stats}
use Rattle.left_tails.specs.Tails.{left_join_cost, size_with_left, tail_cost}

module _ (of : List Stats) (conditions : List Selection) (v i : ℕ) where
  pub first_and_rest : (size next a b c : ℕ) (ons rest : List BoundExpr) (ss ts : List CodeStep) (on : BoundExpr) (s : CodeStep) → ons ≡ on ∷ rest → ss ≡ s ∷ ts → a ≡ left_join_cost of v i s.method → b ≡ rows_at of i → size ≡ size_with_left of conditions v i on → next ≡ suc i
      → c ≡ tail_cost of conditions size next rest ts → a + b + c ≡ tail_cost of conditions v i ons ss
  first_and_rest size next a b c ons rest ss ts on s entries steps join rows sizes index others =
      ap₂ ◌+◌ (ap₂ ◌+◌ join rows) (others ∙ ap₂ (λ n k. tail_cost of conditions n k rest ts) sizes index)
      ∙ sym (ap₂ (λ os us. tail_cost of conditions v i os us) entries steps)
