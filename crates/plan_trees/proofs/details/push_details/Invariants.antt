use Rattle.std.proofs.Common.{◌≡◌, ◌+◌, ◌++◌, drop, map}
use Rattle.row_ast.specs.View.{expr_of}
use Rattle.plan_texts.specs.View.{plan_entry_of}
use Rattle.plan_trees.specs.PlanTrees.{details}
use Rattle.plan_trees.specs.View.{node_of}
use Rattle.plan_trees.proofs.details.push_details.Given as goal

abbrev pub invariant-loop-index : goal.invariant-loop-index
invariant-loop-index g l = l.out.items ++ details (map plan_entry_of l.entries) (node_of l.node) (l.index + 1) (map expr_of (drop l.index l.filters)) ≡ l.fn.out.items ++ details (map plan_entry_of l.entries) (node_of l.node) 1 (map expr_of l.filters)
