use Rattle.std.proofs.Common.{refl}
use Rattle.row_objects.specs.View.{table_entry}
use Rattle.row_objects.specs.TableChanges.{with_owner}
use Rattle.row_objects.proofs.Positions.{written_at}
use Rattle.row_objects.proofs.changes.give_table.Goals as goal

pub returns : goal.returns
returns g c = written_at table_entry (with_owner c.args.owner) c.args.tables.now c.args.index c.at_mut.result.now _ c.at_mut.ensures.value (λ n. refl)
