use Rattle.std.proofs.Common.{◌≡◌, map}
use Rattle.tuples.specs.World.{World}
use Rattle.row_marks.specs.Marks.{AreMarked, seen_of}
use Rattle.row_marks.proofs.marks.forgo_all.Given as goal

abbrev pub invariant-loop-index : goal.invariant-loop-index
invariant-loop-index g l = record {
  seen : map (λ m. seen_of m) l.marked.items ≡ map (λ m. seen_of m) l.fn.marked.items;
  marked : (w : World) → AreMarked w l.fn.marked.items → AreMarked w l.marked.items;
}
