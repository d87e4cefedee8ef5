use Rattle.std.proofs.Common.{◌∙◌, ap, map}
use Rattle.std.proofs.lemmas.Result.{on_ok_weaker}
use Rattle.algebra.specs.View.{step_of}
use Rattle.rewrite.specs.Placing.{raising}
use Rattle.rewrite.proofs.Added.{none_there, raising_here, raising_added}
use Rattle.rewrite.proofs.Below.{none_added}
use Rattle.rewrite.proofs.arranging.+push_raising.Goals as goal

pub returns-in_default : goal.returns-in_default
returns-in_default g t c = none_added c.args.path.now (map step_of c.args.trail.now) _ (ap (raising c.args.entry) (none_there c.args.entries.now c.in_default.len_below))

pub returns-then-i-entry : goal.returns-then-i-entry
returns-then-i-entry g t c = none_added c.args.path.now (map step_of c.args.trail.now) _ (raising_here c.args.path.now (map step_of c.args.trail.now) c.args.entry c.args.entries.now c.in-len1-up.len_at_least c.if-i-entry.true)

pub returns : goal.returns
returns g t c =
    on_ok_weaker c.push_exchanging.result
    (λ n. raising_added c.args.path.now (map step_of c.args.trail.now) c.args.entry c.args.entries.now c.in-len1-up.len_at_least c.if-i-entry.false c.as_slice.result.now (map step_of c.push_raising.new.trail)
    (map step_of c.push_exchanging.new.trail) (c.as_slice.ensures ∙ c.in_ok-deeper.ensures) c.in_ok-push_raising.ensures n)
    c.push_exchanging.ensures
