use Rattle.std.proofs.Common.{append_assoc}
use Rattle.tabular.proofs.Sides.{next_side}
use Rattle.tabular.proofs.answer.sides.Goals as goal

pub loop-j-preserved : goal.loop-j-preserved
loop-j-preserved g c =
    let held = rw (next_side c.loop-j.j c.args.headings.now c.args.rows.now.rows c.loop-j-test.true) at c.loop-j.invariant in
    rw (c.in_ok-push.ensures.items, append_assoc, c.has_number.ensures) held
