use Rattle.std.proofs.Common.{◌≡◌, ◌++◌, drop, length, map}
use Rattle.tuples.specs.Guards.{shows}
use Rattle.tuples.specs.View.{guard_of}
use Rattle.lane_filters.proofs.seen.shown_each.Given as goal

-- those so far, and those of the rows that are left
abbrev pub invariant-loop-number : goal.invariant-loop-number
invariant-loop-number g l = record {
  many : length l.seen ≡ l.number;
  seen : l.seen ++ map (shows l.role (guard_of l.guard)) (drop l.number l.table.rows) ≡ map (shows l.role (guard_of l.guard)) l.table.rows;
}
