use Rattle.std.proofs.Common.{◌≡◌, ◌+◌, ◌-◌, suc, ◌&&◌, not, arith}
use Rattle.stats.specs.View.{members}
use Rattle.joindp.specs.Following.{is_joined_to, some_joined}
use Rattle.code_costs.specs.View.{problem_of}
use Rattle.joindp.proofs.Passing.{not_this_one}
use Rattle.joindp.proofs.following.some_joined.Goals as goal

pub loop-entry-preserved : goal.loop-entry-preserved
loop-entry-preserved g c =
    let placed = members c.args.placed in
    let at = (problem_of c.args.problem.now).setting in
    let entry = c.loop-entry.entry in
    let count = c.inner_count-count.result in
    let more : count - entry ≡ suc (count - (entry + 1)) = omega (arith, c.loop-entry-test.true) in
    not_this_one (λ i. not (placed i) && is_joined_to at placed i) entry (count - entry) (count - (entry + 1)) (some_joined at placed) c.loop-entry.invariant more c.is_waiting.result c.is_waiting.ensures c.if-is_waiting.false
