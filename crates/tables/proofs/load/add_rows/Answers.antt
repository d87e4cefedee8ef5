use Rattle.std.proofs.Common.{arith, ℕ, ◌≡◌, ◌≤◌, ◌<◌, ◌+◌, ◌-◌, ◌^◌, length, map, refl, ◌∙◌}
use Rattle.value.specs.Columns.{column_of}
use Rattle.tables.proofs.Follow.{at_end, at_next, at_room, at_row, counted_one, exit_failed, few_there, next_expected, next_width, none_added, none_failed, one_more_added, refuses_unread}
use Rattle.tables.proofs.load.add_rows.Goals as goal

level : (a b : ℕ) → a ≤ b → b ≤ a → b + 1 ≡ a + 1
level a b l m = omega arith

small : (n room : ℕ) → n + room < 2 ^ 63 → room < 2 ^ 64 - 1
small n room lt = omega arith

pub loop-done-init : goal.loop-done-init
loop-done-init g c = record {
  types = refl;
  finished = c.requires.none;
  expected = c.requires.expected;
  given = c.requires.given;
  fresh = c.requires.fresh;
  added = none_added (map column_of c.args.columns.now) c.args.room c.args.records.now.records c.args.rows.now.rows;
}

pub add_row-requires-clause-wide : goal.add_row-requires-clause-wide
add_row-requires-clause-wide g c =
    next_width c.args.columns.now c.args.room c.loop-done.done c.loop-done.invariant.added.rows c.args.records.now.records c.loop-done.records c.loop-done.invariant.added.seen c.loop-done.invariant.expected c.next_record.new.records c.record.result c.in_ok-next_record.field-0 c.if-not-branch.false c.loop-done-test.true (rw (← c.record.ensures) at c.in_ok-next_record.ensures.gives)

pub add_row-requires-clause-types : goal.add_row-requires-clause-types
add_row-requires-clause-types g c = c.loop-done.invariant.types ∙ c.requires.types

pub add_row-requires-clause-none : goal.add_row-requires-clause-none
add_row-requires-clause-none g c = c.loop-done.invariant.finished

pub add_row-requires-clause-room : goal.add_row-requires-clause-room
add_row-requires-clause-room g c = omega (arith, few_there _ _ _ _ _ _ _ c.loop-done.invariant.added, c.requires.room, c.loop-done-test.true)

pub loop-done-preserved : goal.loop-done-preserved
loop-done-preserved g c = record {
  types = c.add_row.ensures.types ∙ c.loop-done.invariant.types;
  finished = c.in_ok-add_row.ensures.finished;
  expected = next_expected c.args.columns.now c.args.room c.loop-done.done c.loop-done.invariant.added.rows c.args.records.now.records c.loop-done.records c.loop-done.invariant.added.seen c.loop-done.invariant.expected c.next_record.new.records c.record.result c.in_ok-next_record.field-0 c.if-not-branch.false c.loop-done-test.true (rw (← c.record.ensures) at c.in_ok-next_record.ensures.gives);
  given = counted_one c.loop-done.done c.args.room _ _ _ c.loop-done-test.true (small (length c.args.rows.now.rows) c.args.room c.requires.room) c.if-not-branch.false c.in_ok-next_record.ensures.given c.loop-done.invariant.given;
  fresh = c.in_ok-next_record.ensures.goes_on ∙ c.loop-done.invariant.fresh;
  added = one_more_added c.args.columns.now c.args.room c.loop-done.done c.args.records.now.records c.loop-done.records c.loop-done.rows.rows c.args.rows.now.rows c.loop-done.invariant.added c.loop-done.invariant.expected c.loop-done.auto.done-end c.next_record.new.records c.record.result c.in_ok-next_record.field-0 c.add_row.new.rows.rows c.if-not-branch.false c.loop-done-test.true (rw (← c.record.ensures) at c.in_ok-next_record.ensures.gives) c.in_ok-add_row.ensures.row;
}

pub returns-in_err-next_record-clause-failed : goal.returns-in_err-next_record-clause-failed
returns-in_err-next_record-clause-failed g c = exit_failed (Unit {0}) c.next_record.new.records.failure _ c.from_residual.result c.in_err-next_record.field-0.0 c.from_residual.ensures.1 (refuses_unread (Unit {0}) (c.loop-done.done + 1) _ c.loop-done.records c.next_record.new.records c.in_err-next_record.field-0.0 (c.in_err-next_record.ensures.no_more ∙ c.loop-done.invariant.given) c.in_err-next_record.ensures.refuses)

pub returns-in_err-next_record-clause-rows : goal.returns-in_err-next_record-clause-rows
returns-in_err-next_record-clause-rows g c = at_next c.args.columns.now c.args.room c.loop-done.done c.args.records.now.records c.loop-done.records c.loop-done.rows.rows c.args.rows.now.rows c.loop-done.invariant.added c.loop-done.invariant.expected c.loop-done.auto.done-end c.next_record.new.records (c.loop-done.done + 1) c.in_err-next_record.field-0.0 c.from_residual.result refl c.in_err-next_record.ensures.refuses c.from_residual.ensures.1

pub returns-then-not-branch-clause-failed : goal.returns-then-not-branch-clause-failed
returns-then-not-branch-clause-failed g c = none_failed c.next_record.new.records.failure _ _ (c.in_ok-next_record.ensures.goes_on ∙ c.loop-done.invariant.fresh)

pub returns-then-not-branch-clause-rows : goal.returns-then-not-branch-clause-rows
returns-then-not-branch-clause-rows g c = at_end c.args.columns.now c.args.room c.loop-done.done c.args.records.now.records c.loop-done.records c.loop-done.rows.rows c.args.rows.now.rows c.loop-done.invariant.added c.loop-done.invariant.expected c.loop-done.auto.done-end c.next_record.new.records c.next_record.new.records.fields c.in_ok-next_record.field-0 c.in_ok-next_record.ensures.gives c.if-not-branch.true c.in_ok-next_record.ensures.given c.loop-done.invariant.given

pub returns-in_err-add_row-clause-failed : goal.returns-in_err-add_row-clause-failed
returns-in_err-add_row-clause-failed g c = none_failed c.next_record.new.records.failure _ _ (c.in_ok-next_record.ensures.goes_on ∙ c.loop-done.invariant.fresh)

pub returns-in_err-add_row-clause-rows : goal.returns-in_err-add_row-clause-rows
returns-in_err-add_row-clause-rows g c = at_row c.args.columns.now c.args.room c.loop-done.done c.args.records.now.records c.loop-done.records c.loop-done.rows.rows c.args.rows.now.rows c.loop-done.invariant.added c.loop-done.invariant.expected c.loop-done.auto.done-end c.next_record.new.records c.record.result c.in_ok-next_record.field-0 c.in_err-add_row.field-0.0 c.from_residual-in_err-add_row.result c.add_row.new.rows.rows c.in_err-add_row.ensures.kept c.loop-done-test.true (rw (← c.record.ensures) at c.in_ok-next_record.ensures.gives) c.if-not-branch.false c.in_err-add_row.ensures.refused c.in_err-add_row.ensures.no_reader c.from_residual-in_err-add_row.ensures.1

pub returns-in_err-next_record-2-clause-failed : goal.returns-in_err-next_record-2-clause-failed
returns-in_err-next_record-2-clause-failed g c = exit_failed (Unit {0}) c.next_record-2.new.records.failure _ c.from_residual-in_err-next_record-2.result c.in_err-next_record-2.field-0.0 c.from_residual-in_err-next_record-2.ensures.1 (refuses_unread (Unit {0}) (c.args.room + 1) _ c.loop-done.records c.next_record-2.new.records c.in_err-next_record-2.field-0.0 (c.in_err-next_record-2.ensures.no_more ∙ c.loop-done.invariant.given ∙ level _ _ c.loop-done-test.false c.loop-done.auto.done-end) c.in_err-next_record-2.ensures.refuses)

pub returns-in_err-next_record-2-clause-rows : goal.returns-in_err-next_record-2-clause-rows
returns-in_err-next_record-2-clause-rows g c = at_next c.args.columns.now c.args.room c.loop-done.done c.args.records.now.records c.loop-done.records c.loop-done.rows.rows c.args.rows.now.rows c.loop-done.invariant.added c.loop-done.invariant.expected c.loop-done.auto.done-end c.next_record-2.new.records (c.args.room + 1) c.in_err-next_record-2.field-0.0 c.from_residual-in_err-next_record-2.result (level _ _ c.loop-done.auto.done-end c.loop-done-test.false) c.in_err-next_record-2.ensures.refuses c.from_residual-in_err-next_record-2.ensures.1

pub returns-then-branch-clause-failed : goal.returns-then-branch-clause-failed
returns-then-branch-clause-failed g c = none_failed c.next_record-2.new.records.failure _ _ (c.in_ok-next_record-2.ensures.goes_on ∙ c.loop-done.invariant.fresh)

pub returns-then-branch-clause-rows : goal.returns-then-branch-clause-rows
returns-then-branch-clause-rows g c = at_room c.args.columns.now c.args.room c.loop-done.done c.args.records.now.records c.loop-done.records c.loop-done.rows.rows c.args.rows.now.rows c.loop-done.invariant.added c.loop-done.invariant.expected c.loop-done.auto.done-end c.next_record-2.new.records c.next_record-2.new.records.fields c.in_ok-next_record-2.field-0 c.loop-done-test.false c.in_ok-next_record-2.ensures.gives c.if-branch.true

pub returns-clause-failed : goal.returns-clause-failed
returns-clause-failed g c = none_failed c.next_record-2.new.records.failure _ _ (c.in_ok-next_record-2.ensures.goes_on ∙ c.loop-done.invariant.fresh)

pub returns-clause-rows : goal.returns-clause-rows
returns-clause-rows g c = at_end c.args.columns.now c.args.room c.loop-done.done c.args.records.now.records c.loop-done.records c.loop-done.rows.rows c.args.rows.now.rows c.loop-done.invariant.added c.loop-done.invariant.expected c.loop-done.auto.done-end c.next_record-2.new.records c.next_record-2.new.records.fields c.in_ok-next_record-2.field-0 c.in_ok-next_record-2.ensures.gives c.if-branch.false c.in_ok-next_record-2.ensures.given c.loop-done.invariant.given
