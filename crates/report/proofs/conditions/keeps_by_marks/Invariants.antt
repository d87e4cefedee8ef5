use Rattle.std.proofs.Common.{◌≡◌, drop}
use Rattle.tuples.specs.Combinations.{joined_cells}
use Rattle.tuples.specs.View.{world_of}
use Rattle.tuples.specs.World.{combination_at}
use Rattle.row_marks.specs.Marks.{AreMarked, exprs_of}
use Rattle.report.specs.QueryStages.{keeps}
use Rattle.report.proofs.conditions.keeps_by_marks.Given as goal

abbrev pub invariant-loop-condition : goal.invariant-loop-condition
invariant-loop-condition g l =
    let cells = joined_cells (combination_at (world_of l.world).tables l.combination) in
    AreMarked (world_of l.world) l.conditions → keeps cells l.world.role.now (exprs_of (drop l.condition-index l.conditions)) ≡ keeps cells l.world.role.now (exprs_of l.conditions)
