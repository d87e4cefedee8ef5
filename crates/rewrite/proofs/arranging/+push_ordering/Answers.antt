use Rattle.std.proofs.Common.{◌∙◌, ap, map}
use Rattle.std.proofs.lemmas.Result.{on_ok_weaker}
use Rattle.algebra.specs.View.{step_of}
use Rattle.rewrite.specs.Placing.{ordering}
use Rattle.rewrite.proofs.Added.{none_there, ordering_added}
use Rattle.rewrite.proofs.Below.{none_added}
use Rattle.rewrite.proofs.arranging.+push_ordering.Goals as goal

pub returns-in_default : goal.returns-in_default
returns-in_default g t c = none_added c.args.path.now (map step_of c.args.trail.now) _ (ap (λ l. ordering l c.args.entries.now) (none_there c.args.wanted.now c.in_default.len_below))

pub returns : goal.returns
returns g t c =
    on_ok_weaker c.push_ordering.result
    (λ n. ordering_added c.args.path.now (map step_of c.args.trail.now) c.as_slice.result.now (map step_of c.push_raising.new.trail) (map step_of c.push_ordering.new.trail) (c.as_slice.ensures ∙ c.in_ok-deeper.ensures)
    c.args.wanted.now c.args.entries.now c.as_slice-2.result.now c.in-len1-up.len_at_least (c.as_slice-2.ensures ∙ c.in_ok-rest.ensures) c.in_ok-push_raising.ensures n)
    c.push_ordering.ensures
