use Rattle.std.proofs.Common.{◌≡◌, drop, map}
use Rattle.tuples.specs.Combinations.{joined_cells}
use Rattle.tuples.specs.View.{world_of}
use Rattle.tuples.specs.World.{combination_at}
use Rattle.row_marks.specs.Marks.{AreMarked, exprs_of, seen_of}
use Rattle.report.specs.QueryStages.{keeps}
use Rattle.report.proofs.conditions.keeps_combination.Given as goal

abbrev pub invariant-loop-index : goal.invariant-loop-index
invariant-loop-index g l =
    let cells = joined_cells (combination_at (world_of l.world).tables l.combination) in
    record {
      seen : map (λ m. seen_of m) l.conditions.items ≡ map (λ m. seen_of m) l.fn.conditions.items;
      marked : AreMarked (world_of l.world) l.fn.conditions.items → AreMarked (world_of l.world) l.conditions.items;
      value : AreMarked (world_of l.world) l.fn.conditions.items → keeps cells l.world.role.now (drop l.index (exprs_of l.fn.conditions.items)) ≡ keeps cells l.world.role.now (exprs_of l.fn.conditions.items);
    }
