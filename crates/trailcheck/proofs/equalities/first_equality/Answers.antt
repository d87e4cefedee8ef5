use Rattle.std.proofs.Common.{sym, ◌∙◌}
use Rattle.trailcheck.specs.Equalities as spec
use Rattle.trailcheck.proofs.FirstNumbers.{not_this}
use Rattle.trailcheck.proofs.equalities.first_equality.Goals as goal

pub loop-k-preserved : goal.loop-k-preserved
loop-k-preserved g c =
    not_this (spec.is_equality c.args.entry c.args.on.now) c.conjunct_count-count.result c.loop-k.k (spec.first_equality c.args.entry c.args.on.now) c.loop-k.invariant c.loop-k-test.true (sym c.if-is_equality.false ∙ c.is_equality.ensures)
