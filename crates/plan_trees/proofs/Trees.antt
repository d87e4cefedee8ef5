-- The tree of steps, by the first of them and the rest.
use Rattle.std.proofs.Common.{◌≡◌, ℕ, suc, ◌-◌, ◌<◌, ◌≤◌, true, false, List, [], ◌∷◌, ◌++◌, length, get_or, take, drop, refl, sym, ap₂, arith}
use Rattle.std.proofs.lemmas.List.{take_rest}
use Rattle.plan_texts.specs.declared.plan.PlanStep.{PlanStep}
use Rattle.plan_trees.specs.PlanTrees.{Source, node_text, steps_text}

pub none_there : {X : Type 0} (xs : List X) → length xs < 1 → xs ≡ []
none_there [] h = refl
none_there (x ∷ xs) h = absurd (omega arith)

-- the elements after the first
abbrev pub rest_of : {X : Type 0} → List X → List X
rest_of xs = take (length xs - 1) (drop 1 xs)

rest_is : {X : Type 0} (x : X) (xs : List X) → rest_of (x ∷ xs) ≡ xs
rest_is x xs = take_rest (x ∷ xs) 1

module _ (q : Source) (depth : ℕ) (d : PlanStep) where
  pub steps_one : (ss : List PlanStep) → length ss ≡ 1 → steps_text q depth ss ≡ node_text q (record { is_scan = true; step = get_or ss 0 d; before = []; depth = depth })
  steps_one [] h = absurd (omega arith)
  steps_one (s ∷ []) h = refl
  steps_one (s ∷ (b ∷ ss)) h = absurd (omega arith)

  pub steps_more : (ss : List PlanStep) (next : ℕ) → 2 ≤ length ss → next ≡ suc depth
      → steps_text q depth ss
      ≡ node_text q (record { is_scan = false; step = get_or ss 0 d; before = rest_of ss; depth = depth }) ++ steps_text q next (rest_of ss) ++ node_text q (record { is_scan = true; step = get_or ss 0 d; before = rest_of ss; depth = next })
  steps_more [] next h n = absurd (omega arith)
  steps_more (s ∷ []) next h n = absurd (omega arith)
  steps_more (s ∷ (b ∷ ss)) next h n =
      let text = λ (rest : List PlanStep) (below : ℕ).
      node_text q (record { is_scan = false; step = s; before = rest; depth = depth }) ++ steps_text q below rest ++ node_text q (record { is_scan = true; step = s; before = rest; depth = below }) in
      ap₂ text (sym (rest_is s (b ∷ ss))) (sym n)
