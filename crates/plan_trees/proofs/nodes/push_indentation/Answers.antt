use Rattle.plan_trees.proofs.Written.{indented_next}
use Rattle.plan_trees.proofs.nodes.push_indentation.Goals as goal

pub loop-left-preserved : goal.loop-left-preserved
loop-left-preserved g c = indented_next c.loop-left.out.items c.push_str.new.out.items _ c.loop-left.left c.loop-left-test.true c.in_ok-push_str.ensures c.loop-left.invariant
