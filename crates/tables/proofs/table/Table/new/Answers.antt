use Rattle.tables.proofs.Wide.{new_holds}
use Rattle.tables.proofs.table.Table.new.Goals as goal

pub invariant_of-result : goal.invariant_of-result
invariant_of-result g c =
    let h = new_holds c.args.columns c.as_slice.result.now c.in_ok-rows.rows c.as_slice.ensures c.in_ok-rows.ensures.types c.in_ok-rows.ensures.rows c.in_ok-rows.ensures.unfinished in
    record { types = h.0; finished = h.1; wide = h.2; few = h.3 }
