use Rattle.std.proofs.Common.{◌∙◌, ◌≤◌, length, ap, map, arith}
use Rattle.std.proofs.lemmas.Result.{on_ok_weaker}
use Rattle.tuples.specs.View.{guard_of}
use Rattle.algebra.specs.View.{step_of}
use Rattle.rewrite.specs.Placing.{opening}
use Rattle.rewrite.proofs.Added.{none_there, opening_added}
use Rattle.rewrite.proofs.Below.{none_added}
use Rattle.rewrite.proofs.arranging.+push_opening.Goals as goal

pub returns-in-empty : goal.returns-in-empty
returns-in-empty g t c = none_added c.args.path.now (map step_of c.args.trail.now) _ (ap (opening (map guard_of c.args.frame.now)) (none_there c.args.entries.now c.in-empty.len_below))

pub returns-in_ok-deeper-in-len1-up : goal.returns-in_ok-deeper-in-len1-up
returns-in_ok-deeper-in-len1-up g t c =
    let two : 2 ≤ length c.args.entries.now = omega arith in
    on_ok_weaker c.push_opening.result
    (λ n. opening_added c.args.path.now (map step_of c.args.trail.now) c.as_slice-in-len1-up.result.now (map step_of c.push_opening_one-in-len1-up.new.trail) (map step_of c.push_opening.new.trail)
    (c.as_slice-in-len1-up.ensures ∙ c.in_ok-deeper-in-len1-up.ensures) (map guard_of c.args.frame.now) c.args.entries.now c.as_slice.result.now two (c.as_slice.ensures ∙ c.in_ok-side-in-len1-up.ensures)
    c.in_ok-push_opening_one-in-len1-up.ensures n)
    c.push_opening.ensures
