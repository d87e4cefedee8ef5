use Rattle.std.proofs.Common.{map}
use Rattle.access_matrix.specs.Sights.{pair_of}
use Rattle.access_matrix.proofs.Reported.{pair_at}
use Rattle.access_matrix.proofs.comparing.add_role.Goals as goal

pub loop-table-preserved : goal.loop-table-preserved
loop-table-preserved g c =
    pair_at c.args.stores.old.now c.args.stores.new.now (map (λ p. pair_of p) c.args.allowed.now) (λ table. (c.args.role.now, table.now)) c.args.tables.now c.loop-table.table-index _ _ c.loop-table.invariant
    _ c.loop-table-test.true _ (c.in_ok-add_pair.ensures c.args.stores.old.now c.args.stores.new.now c.in_ok-old.ensures c.in_ok-new.ensures)
