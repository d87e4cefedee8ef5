use Rattle.std.proofs.Common.{◌≡◌, ◌≤◌, length, take}
use Rattle.std.specs.Ordering.{int_cmp}
use Rattle.stats.specs.Repeats.{without_repeats}
use Rattle.stats.proofs.Marks.{AreMarked}
use Rattle.stats.proofs.counting.distinct_by_marks.Given as goal

-- the numbers so far have their marks, and the distinct ones are counted
abbrev pub invariant-loop-number : goal.invariant-loop-number
invariant-loop-number g l = record {
  few : l.count ≤ l.number-index;
  long : length l.marks.items ≡ l.places;
  counts : l.count ≡ length (without_repeats int_cmp (take l.number-index l.numbers));
  marked : AreMarked l.numbers l.least l.places l.marks.items l.number-index;
}
