use Rattle.command_line.proofs.Pairs.{kept}
use Rattle.command_line.proofs.arguments.pairs_in.Goals as goal

pub loop-text-preserved : goal.loop-text-preserved
loop-text-preserved c =
    kept c.args.texts.now c.loop-text.text-index _ c.loop-text.pairs.items _ _ _ c.loop-text-test.true c.in_ok-push-in-Some.ensures.items c.in-Some.ensures c.loop-text.invariant
