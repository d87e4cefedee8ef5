use Rattle.std.proofs.Common.{map, refl}
use Rattle.row_objects.specs.View.{table_of}
use Rattle.scope.specs.View.{entry_of}
use Rattle.access.specs.Access.{sees}
use Rattle.access.specs.Guards.{frame, guard}
use Rattle.tuples.specs.Guards.{shows}
use Rattle.tuples.specs.View.{guard_of}
use Rattle.access.proofs.Frames.{next_is_made, all_are_made}
use Rattle.access.proofs.guards.frame.Goals as goal

pub loop-entry-preserved : goal.loop-entry-preserved
loop-entry-preserved g c = (
  next_is_made guard_of (λ e. guard c.args.catalog.now c.args.role.now (table_of e.table)) (λ es. frame c.args.catalog.now c.args.role.now (map (λ e. entry_of e) es)) (λ e es. refl)
      c.loop-entry.guards c.args.entries.now c.loop-entry.entry-index c.in-Ok.guard c.entry-item.result _ c.loop-entry-test.true c.entry-item.is (c.in_ok-push-in-Ok.ensures.ok) c.in-Ok.ensures.value c.loop-entry.invariant.0,
  λ row. next_is_made (λ g. shows c.args.role.now (guard_of g) row) (λ e. sees c.args.catalog.now c.args.role.now (table_of e.table) row) (map (λ e. sees c.args.catalog.now c.args.role.now (table_of e.table) row)) (λ e es. refl)
      c.loop-entry.guards c.args.entries.now c.loop-entry.entry-index c.in-Ok.guard c.entry-item.result _ c.loop-entry-test.true c.entry-item.is c.in_ok-push-in-Ok.ensures.ok (c.in-Ok.ensures.shows row) (c.loop-entry.invariant.1 row),
)

pub returns-clause-shows : goal.returns-clause-shows
returns-clause-shows g c = λ row. all_are_made (λ g. shows c.args.role.now (guard_of g) row) (λ e. sees c.args.catalog.now c.args.role.now (table_of e.table) row) (map (λ e. sees c.args.catalog.now c.args.role.now (table_of e.table) row)) (λ e es. refl)
    c.loop-entry.guards c.args.entries.now c.loop-entry.entry-index c.loop-entry-test.false refl (c.loop-entry.invariant.1 row)

pub returns-clause-value : goal.returns-clause-value
returns-clause-value g c = all_are_made guard_of (λ e. guard c.args.catalog.now c.args.role.now (table_of e.table)) (λ es. frame c.args.catalog.now c.args.role.now (map (λ e. entry_of e) es)) (λ e es. refl)
    c.loop-entry.guards c.args.entries.now c.loop-entry.entry-index c.loop-entry-test.false refl c.loop-entry.invariant.0
