use Rattle.std.proofs.Common.{◌≡◌, ℕ, ◌+◌, ◌-◌, length}
use Rattle.row_marks.specs.Marks.{mark_at}
use Rattle.row_marks.proofs.mark_column.MarkColumn.reach.Given as goal

abbrev pub invariant-loop-self : goal.invariant-loop-self
invariant-loop-self g l = (k : ℕ) → mark_at l.self k ≡ mark_at l.fn.self k

abbrev pub decreases-loop-self : goal.decreases-loop-self
decreases-loop-self g l = l.number + 1 - length l.self.places.items
