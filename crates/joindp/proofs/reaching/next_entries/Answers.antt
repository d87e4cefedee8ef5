use Rattle.std.proofs.Common.{◌≡◌, ◌∙◌, ◌&&◌, ◌||◌, ◌==◌, nat_lt, ap, arith}
use Rattle.stats.specs.View.{members}
use Rattle.joindp.specs.Following.{may_be_next}
use Rattle.joindp.specs.Search.{entry_count}
use Rattle.code_costs.specs.View.{problem_of}
use Rattle.joindp.proofs.Reached.{next_more}
use Rattle.joindp.proofs.reaching.next_entries.Goals as goal

pub loop-entry-preserved : goal.loop-entry-preserved
loop-entry-preserved g c =
    let m = may_be_next (problem_of c.args.problem.now).setting (members c.args.placed) in
    λ i. c.with_next-next.ensures i ∙ ap (λ b. (c.may_be_next.result && (c.loop-entry.entry == i)) || b) (c.loop-entry.invariant i) ∙ next_more m c.loop-entry.entry i c.may_be_next.result c.may_be_next.ensures

pub returns : goal.returns
returns g c =
    let n : c.loop-entry.entry ≡ entry_count (problem_of c.args.problem.now) = omega (arith, c.inner_count-count.ensures.count, c.loop-entry-test.false) in
    λ i. c.loop-entry.invariant i ∙ ap (λ k. nat_lt i k && may_be_next (problem_of c.args.problem.now).setting (members c.args.placed) i) n
