use Rattle.std.proofs.Common.{◌≡◌, ℕ, ◌+◌, ◌-◌, suc, [], ◌∷◌, ◌++◌, map, refl, arith}
use Rattle.expr.specs.declared.code.Access.TheVariants.{Range}
use Rattle.trailcheck.specs.Admissible.{bounds, condition_at, is_some_and}
use Rattle.joindp.specs.Following.{by_index}
use Rattle.code_costs.specs.View.{problem_of}
use Rattle.joindp.proofs.Passing.{one_left, one_taken}
use Rattle.joindp.proofs.following.push_index.Goals as goal
use Rattle.joindp.proofs.following.push_index.Goals.{then-is_bound+in_ok-push-2, else-is_bound}

pub loop-k-preserved : goal.loop-k-preserved
loop-k-preserved g c =
    let at = (problem_of c.args.problem.now).setting in
    let k = c.loop-k.k in
    let count = c.len-count.result in
    let more : count - k ≡ suc (count - (k + 1)) = omega (arith, c.loop-k-test.true) in
    let test = λ (number : ℕ). is_some_and (bounds c.args.entry c.args.column) (condition_at at number) in
    let whole = c.args.known.now ++ by_index at c.args.entry c.args.column in
    elim c.if-is_bound.branch [
      | then-is_bound+in_ok-push-2 w ↦ one_taken (map (λ (number : ℕ). Range c.args.column number)) (λ (number : ℕ). Range c.args.column number ∷ []) (λ _ _. refl) test (k + 1) (count - k) (count - (k + 1)) c.loop-k.known whole c.loop-k.invariant c.if-is_bound.known w.push-then-is_bound.new.self c.is_bound.result w.known-is w.in_ok-push-2.ensures.ok more c.is_bound.ensures w.if-is_bound.true
      | else-is_bound w ↦ one_left (map (λ (number : ℕ). Range c.args.column number)) (λ (number : ℕ). Range c.args.column number ∷ []) (λ _ _. refl) test (k + 1) (count - k) (count - (k + 1)) c.loop-k.known whole c.loop-k.invariant c.if-is_bound.known c.is_bound.result w.known-is more c.is_bound.ensures w.if-is_bound.false
    ]
