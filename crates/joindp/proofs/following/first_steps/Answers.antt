use Rattle.std.proofs.Common.{◌≡◌, ℕ, ◌+◌, ◌-◌, ◌++◌, suc, false, List, length, map, filter, refl, ap, ◌∙◌, arith}
use mathlib.Core.Path.{fun_ext}
use Rattle.std.specs.List.{flat_map, range_with_len}
use Rattle.expr.specs.declared.code.Access.{Access}
use Rattle.stats.specs.Card.{Entries}
use Rattle.joindp.specs.Following as spec
use Rattle.code_costs.specs.View.{problem_of}
use Rattle.joindp.proofs.Passing.{as_many, at_place, one_left, one_taken}
use Rattle.joindp.proofs.following.first_steps.Goals as goal
use Rattle.joindp.proofs.following.first_steps.Goals.{then-may_be_next+in_ok-push_first_steps, else-may_be_next}
use Rattle.trailcheck.specs.Settings.{inner_count}

pub loop-entry-init : goal.loop-entry-init
loop-entry-init g c =
    let at = (problem_of c.args.problem.now).setting in
    let count : length c.args.accesses.now - 0 ≡ inner_count at = omega (arith, as_many (spec.accesses at) (inner_count at) c.args.accesses.now c.requires) in
    rw c.new-steps.ensures (ap (λ n. flat_map (λ (entry : ℕ). map (spec.first_step entry) (spec.accesses at entry)) (filter (spec.may_be_next at (λ entry. false)) (range_with_len 0 n))) count)

pub loop-entry-preserved : goal.loop-entry-preserved
loop-entry-preserved g c =
    let at = (problem_of c.args.problem.now).setting in
    let none : Entries = λ entry. false in
    let of = λ (entry : ℕ). map (spec.first_step entry) (spec.accesses at entry) in
    let entry = c.loop-entry.entry in
    let count = length c.args.accesses.now in
    let more : count - entry ≡ suc (count - (entry + 1)) = omega (arith, c.loop-entry-test.true) in
    let own = at_place (spec.accesses at) (inner_count at) c.args.accesses.now c.requires entry c.index-accesses-entry.result c.loop-entry-test.true c.index-accesses-entry.is in
    let test = c.may_be_next.ensures ∙ ap (λ (placed : Entries). spec.may_be_next at placed entry) (fun_ext c.none-placed.ensures.members) in
    elim c.if-may_be_next.branch [
      | then-may_be_next+in_ok-push_first_steps w ↦
          one_taken (flat_map of) of (λ _ _. refl) (spec.may_be_next at none) entry (count - entry) (count - (entry + 1)) c.loop-entry.steps (spec.first_steps at) c.loop-entry.invariant c.if-may_be_next.steps w.push_first_steps.new.known c.may_be_next.result
          w.steps-is (w.in_ok-push_first_steps.ensures ∙ ap (λ (l : List Access). c.loop-entry.steps ++ map (spec.first_step entry) l) (w.as_slice.ensures ∙ own)) more test w.if-may_be_next.true
      | else-may_be_next w ↦
          one_left (flat_map of) of (λ _ _. refl) (spec.may_be_next at none) entry (count - entry) (count - (entry + 1)) c.loop-entry.steps (spec.first_steps at) c.loop-entry.invariant c.if-may_be_next.steps c.may_be_next.result w.steps-is more test w.if-may_be_next.false
    ]
