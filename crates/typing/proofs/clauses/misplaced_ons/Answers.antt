use Rattle.std.proofs.Common.{◌∙◌, ap, arith, false, map}
use Rattle.scope.specs.View.{entry_of}
use Rattle.typing.specs.Clauses.{misplaced_condition}
use Rattle.expr.specs.Offsets.{least_of}
use Rattle.memory.proofs.Lists.{known_next}
use Rattle.expr.proofs.Leasts.{least_after, least_next, least_of_none}
use Rattle.typing.proofs.Walks.{known_over}
use Rattle.typing.proofs.clauses.misplaced_ons.Goals as goal

pub loop-entry-preserved : goal.loop-entry-preserved
loop-entry-preserved g c =
    known_next (least_after (λ e. misplaced_condition (map (λ e. entry_of e) c.args.entries.now) c.args.group_by.now false e.on)) (λ known e. least_of known (misplaced_condition (map (λ e. entry_of e) c.args.entries.now) c.args.group_by.now false e.on)) (λ e. entry_of e) c.args.entries.now c.loop-entry.entry-index
    (least_next (λ e. misplaced_condition (map (λ e. entry_of e) c.args.entries.now) c.args.group_by.now false e.on)) c.entry-item.result c.loop-entry-test.true c.entry-item.is c.loop-entry.known _ _ c.loop-entry.invariant
    (c.least_of-known.ensures ∙ ap (least_of c.loop-entry.known) c.misplaced_condition.ensures)

pub returns : goal.returns
returns g c =
    known_over (least_after (λ e. misplaced_condition (map (λ e. entry_of e) c.args.entries.now) c.args.group_by.now false e.on)) (λ e. entry_of e) c.args.entries.now c.loop-entry.entry-index
    least_of_none c.loop-entry.known _ c.loop-entry.invariant (omega (arith, c.loop-entry-test.false))
