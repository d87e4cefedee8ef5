use Rattle.std.proofs.Common.{◌≡◌, ◌++◌}
use Rattle.plan_trees.specs.PlanTrees.{indentation}
use Rattle.plan_trees.proofs.nodes.push_indentation.Given as goal

abbrev pub invariant-loop-left : goal.invariant-loop-left
invariant-loop-left g l = l.out.items ++ indentation l.left ≡ l.fn.out.items ++ indentation l.depth

abbrev pub decreases-loop-left : goal.decreases-loop-left
decreases-loop-left g l = l.left
