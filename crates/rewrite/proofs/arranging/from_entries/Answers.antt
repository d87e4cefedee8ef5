use Rattle.std.proofs.Common.{◌∙◌, ◌+◌, ◌-◌, ◌++◌, ap, reverse}
use Rattle.std.specs.List.{range_with_len}
use Rattle.rewrite.proofs.Added.{from_more}
use Rattle.rewrite.proofs.arranging.from_entries.Goals as goal

pub loop-k-preserved : goal.loop-k-preserved
loop-k-preserved g c =
    ap (λ l. l ++ reverse (range_with_len 0 (c.args.count - (c.loop-k.k + 1)))) c.in_ok-push.ensures.ok
    ∙ from_more c.loop-k.entries (reverse (range_with_len 0 c.args.count)) c.args.count c.loop-k.k c.loop-k-test.true c.loop-k.invariant
