use Rattle.std.proofs.Common.{◌≡◌, ℕ, ◌+◌, ◌-◌, ◌++◌, suc, List, length, filter, refl, ap, ap₂, ◌∙◌, arith}
use Rattle.std.specs.List.{flat_map, range_with_len}
use Rattle.expr.specs.declared.code.Access.{Access}
use Rattle.stats.specs.View.{members}
use Rattle.joindp.specs.FewSteps as spec
use Rattle.joindp.specs.Following.{accesses, may_be_next}
use Rattle.code_costs.specs.View.{problem_of}
use Rattle.joindp.proofs.Passing.{as_many, at_place, one_left, one_taken}
use Rattle.joindp.proofs.few_steps.few_steps.Goals as goal
use Rattle.joindp.proofs.few_steps.few_steps.Goals.{then-may_be_next+in_ok-equalities+in_ok-push_few_to, else-may_be_next}
use Rattle.trailcheck.specs.Settings.{inner_count}

pub loop-entry-init : goal.loop-entry-init
loop-entry-init g c =
    let p = problem_of c.args.problem.now in
    let placed = members c.args.placed in
    let count : length c.args.accesses.now - 0 ≡ inner_count p.setting = omega (arith, as_many (accesses p.setting) (inner_count p.setting) c.args.accesses.now c.requires) in
    rw c.new-steps.ensures (ap (λ n. flat_map (spec.few_steps_to p placed) (filter (may_be_next p.setting placed) (range_with_len 0 n))) count)

pub loop-entry-preserved : goal.loop-entry-preserved
loop-entry-preserved g c =
    let p = problem_of c.args.problem.now in
    let at = p.setting in
    let placed = members c.args.placed in
    let entry = c.loop-entry.entry in
    let count = length c.args.accesses.now in
    let more : count - entry ≡ suc (count - (entry + 1)) = omega (arith, c.loop-entry-test.true) in
    let own = at_place (accesses at) (inner_count at) c.args.accesses.now c.requires entry c.index-accesses-entry.result c.loop-entry-test.true c.index-accesses-entry.is in
    elim c.if-may_be_next.branch [
      | then-may_be_next+in_ok-equalities+in_ok-push_few_to w ↦
          one_taken (flat_map (spec.few_steps_to p placed)) (spec.few_steps_to p placed) (λ _ _. refl) (may_be_next at placed) entry (count - entry) (count - (entry + 1)) c.loop-entry.steps (spec.few_steps p placed) c.loop-entry.invariant c.if-may_be_next.steps w.push_few_to.new.known c.may_be_next.result
          w.steps-is (w.in_ok-push_few_to.ensures ∙ ap₂ (λ (ways : List Access) (ns : List ℕ). c.loop-entry.steps ++ spec.few_of p entry ways ns) (w.as_slice.ensures ∙ own) (w.as_slice-then-may_be_next.ensures ∙ w.in_ok-equalities.ensures))
          more c.may_be_next.ensures w.if-may_be_next.true
      | else-may_be_next w ↦
          one_left (flat_map (spec.few_steps_to p placed)) (spec.few_steps_to p placed) (λ _ _. refl) (may_be_next at placed) entry (count - entry) (count - (entry + 1)) c.loop-entry.steps (spec.few_steps p placed) c.loop-entry.invariant c.if-may_be_next.steps c.may_be_next.result
          w.steps-is more c.may_be_next.ensures w.if-may_be_next.false
    ]
