use Rattle.std.proofs.Common.{◌∙◌, ap, arith, map}
use Rattle.scope.specs.View.{entry_of}
use Rattle.expr.specs.Offsets.{least_of}
use Rattle.typing.proofs.Walks.{on_next, ons_over}
use Rattle.typing.proofs.clauses.mistyped_ons.Goals as goal

pub loop-number-preserved : goal.loop-number-preserved
loop-number-preserved g c =
    on_next (map (λ e. entry_of e) c.args.entries.now) (λ e. entry_of e) c.args.entries.now c.loop-number.number c.loop-number.known _ c.loop-number.invariant c.index-entries-number.result c.loop-number-test.true c.index-entries-number.is _
    (c.least_of-known.ensures ∙ ap (least_of c.loop-number.known) (rw c.on_scope.ensures at c.mistyped_condition-on.ensures))

pub returns : goal.returns
returns g c = ons_over (map (λ e. entry_of e) c.args.entries.now) (λ e. entry_of e) c.args.entries.now c.loop-number.number c.loop-number.known _ c.loop-number.invariant (omega (arith, c.loop-number-test.false))
