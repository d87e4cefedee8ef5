use Rattle.std.proofs.Common.{map, take}
use Rattle.tuples.specs.View.{world_of}
use Rattle.tuples.specs.World.{combination_at}
use Rattle.row_marks.specs.Marks.{AreMarksOf}
use Rattle.report.specs.Answering.{Took}
use Rattle.report.proofs.finishing.finish_marked.Given as goal

abbrev pub invariant-loop-combination : goal.invariant-loop-combination
invariant-loop-combination g l =
    let w = world_of l.fn.world in
    AreMarksOf w l.marks → Took w l.answering (map (combination_at w.tables) (take l.combination-index l.combinations))
