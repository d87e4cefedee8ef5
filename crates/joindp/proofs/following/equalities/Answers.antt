use Rattle.std.proofs.Common.{◌≡◌, ℕ, ◌+◌, ◌-◌, suc, List, [], ◌∷◌, filter, refl, arith}
use Rattle.stats.specs.View.{members}
use Rattle.joindp.specs.Following.{all_numbers, is_equality}
use Rattle.code_costs.specs.View.{problem_of}
use Rattle.joindp.proofs.Passing.{one_left, one_taken}
use Rattle.joindp.proofs.following.equalities.Goals as goal
use Rattle.joindp.proofs.following.equalities.Goals.{then-is_equality+in_ok-push, else-is_equality}

pub loop-k-preserved : goal.loop-k-preserved
loop-k-preserved g c =
    let at = (problem_of c.args.problem.now).setting in
    let test = is_equality at (members c.args.placed) c.args.entry in
    let whole = filter test (all_numbers at) in
    let k = c.loop-k.k in
    let count = c.len-count.result in
    let more : count - k ≡ suc (count - (k + 1)) = omega (arith, c.loop-k-test.true) in
    let same = λ (ns : List ℕ). ns in
    let one = λ (n : ℕ). n ∷ [] in
    elim c.if-is_equality.branch [
      | then-is_equality+in_ok-push w ↦ one_taken same one (λ _ _. refl) test (k + 1) (count - k) (count - (k + 1)) c.loop-k.numbers whole c.loop-k.invariant c.if-is_equality.numbers w.push.new.self c.is_equality.result w.numbers-is w.in_ok-push.ensures.ok more c.is_equality.ensures w.if-is_equality.true
      | else-is_equality w ↦ one_left same one (λ _ _. refl) test (k + 1) (count - k) (count - (k + 1)) c.loop-k.numbers whole c.loop-k.invariant c.if-is_equality.numbers c.is_equality.result w.numbers-is more c.is_equality.ensures w.if-is_equality.false
    ]
