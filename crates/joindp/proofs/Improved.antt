-- One step more of the search for the best first step.
use Rattle.std.proofs.Common.{◌≡◌, ◌∙◌, refl, sym, ap, subst, ℕ, zero, suc, ◌+◌, ◌-◌, ◌^◌, ◌<◌, ◌≤◌, inl, inr, true, false, List, [], ◌∷◌, take, length, Option, Some, None, slice_index_or, arith}
use Rattle.std.proofs.Math.Numerals.{add-one}
use Rattle.std.proofs.Math.Seq.{take-suc}
use Rattle.expr.specs.declared.code.CodeStep.{CodeStep}
use Rattle.stats.specs.Card.{Entries}
use Rattle.trailcheck.specs.Settings.{Setting}
use Rattle.code_costs.specs.Best.{Problem}
use Rattle.code_costs.proofs.Few.{no_step}
use Rattle.joindp.specs.FewSteps.{few_steps}
use Rattle.joindp.specs.Following.{first_steps, may_follow}
use Rattle.joindp.specs.Search.{IsSmall, State, allows, cost_of_step, is_done, next, search}
use Rattle.joindp.specs.Walks.{IsBestFrom, IsBestOf, IsOneOf, IsPick, Plan, with_first}
use Rattle.joindp.proofs.Bests.{IsAsGood, best_more, best_of_all}
use Rattle.joindp.proofs.FewSteps.{few_follow}
use Rattle.joindp.proofs.Followed.{first_follow}

-- ---- elements of a list by their indexes

one_of_at : (xs : List CodeStep) (i : ℕ) (d : CodeStep) → i < length xs → IsOneOf xs (slice_index_or xs i d)
one_of_at [] i d h = absurd (omega arith)
one_of_at (x ∷ xs) zero d h = inl refl
one_of_at (x ∷ xs) (suc i) d h = inr (one_of_at xs i d (omega arith))

pub take_all : (xs : List CodeStep) (n : ℕ) → length xs ≤ n → take n xs ≡ xs
take_all [] zero h = refl
take_all [] (suc n) h = refl
take_all (x ∷ xs) zero h = absurd (omega arith)
take_all (x ∷ xs) (suc n) h = ap (λ ys. x ∷ ys) (take_all xs n (omega arith))

-- each of the steps that may come first does so
pub each_first : (at : Setting) (xs : List CodeStep) (i : ℕ) → xs ≡ first_steps at → i < length xs → may_follow at (λ entry. false) (slice_index_or xs i no_step) ≡ true
each_first at xs i e h = first_follow at (slice_index_or xs i no_step) (subst (λ ys. IsOneOf ys (slice_index_or xs i no_step)) e (one_of_at xs i no_step h))

-- each of the few after a set may follow it
pub each_few : (p : Problem) (placed : Entries) (xs : List CodeStep) (i : ℕ) → xs ≡ few_steps p placed → i < length xs → may_follow p.setting placed (slice_index_or xs i no_step) ≡ true
each_few p placed xs i e h = few_follow p placed (slice_index_or xs i no_step) (subst (λ ys. IsOneOf ys (slice_index_or xs i no_step)) e (one_of_at xs i no_step h))

-- ---- the better of the best so far and one more

module _ (p : Problem) (s : State) where
  pub improved : (xs : List CodeStep) (i : ℕ) (d : CodeStep) (best rest new : Option Plan) (cost : ℕ) → i < length xs → allows p s (slice_index_or xs i d) ≡ true → IsBestOf (search p) (take i xs) s best
      → cost ≡ cost_of_step p s (slice_index_or xs i d) → IsBestFrom (search p) (next p s (slice_index_or xs i d)) rest → IsPick best (with_first cost (slice_index_or xs i d) rest) new → IsBestOf (search p) (take (i + 1) xs) s new
  improved xs i d best rest new cost within may h e after pick =
      let x = slice_index_or xs i d in
      subst (λ ys. IsBestOf (search p) ys s new) (sym (ap (λ n. take n xs) (add-one i) ∙ take-suc xs i d within))
      (best_more (search p) s x may (take i xs) best new rest h after (subst (λ n. IsPick best (with_first n x rest) new) e pick))

  -- after all steps, of which one is as good as each that may come
  pub all_improved : (xs : List CodeStep) (n : ℕ) (best : Option Plan) → length xs ≤ n → is_done p s ≡ false → ((c : CodeStep) → allows p s c ≡ true → (d : CodeStep) × IsOneOf xs d × IsAsGood (search p) s d c) → IsBestOf (search p) (take n xs) s best → IsBestFrom (search p) s best
  all_improved xs n best over open' all h = best_of_all (search p) xs s best open' all (subst (λ ys. IsBestOf (search p) ys s best) (take_all xs n over) h)

-- ---- costs stay small

after_small : (m cost : ℕ) (d : CodeStep) (rest : Option Plan) → 0 < m → cost ≤ 2 ^ 81 → IsSmall (m - 1) rest → IsSmall m (with_first cost d rest)
after_small m cost d None pos low small = tt
after_small m cost d (Some q) pos low small = let e : m ≡ (m - 1) + 1 = omega arith in omega (arith, e, low, small)

pub improved_small : (m cost : ℕ) (d : CodeStep) (best rest new : Option Plan) → 0 < m → cost ≤ 2 ^ 81 → IsSmall m best → IsSmall (m - 1) rest → IsPick best (with_first cost d rest) new → IsSmall m new
improved_small m cost d best rest new pos low b r pick = go best (with_first cost d rest) b (after_small m cost d rest pos low r) pick
  where
    go : (x y : Option Plan) → IsSmall m x → IsSmall m y → IsPick x y new → IsSmall m new
    go None y hx hy k = subst (IsSmall m) (sym k) hy
    go (Some x) None hx hy k = subst (IsSmall m) (sym k) hx
    go (Some x) (Some y) hx hy (inl k) = subst (IsSmall m) (sym k.0) hx
    go (Some x) (Some y) hx hy (inr k) = subst (IsSmall m) (sym k.0) hy
