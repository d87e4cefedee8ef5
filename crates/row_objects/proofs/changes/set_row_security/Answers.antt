use Rattle.row_objects.specs.View.{table_entry}
use Rattle.row_objects.specs.TableChanges.{with_row_security}
use Rattle.row_objects.proofs.Positions.{written_at}
use Rattle.row_objects.proofs.changes.set_row_security.Goals as goal

pub returns : goal.returns
returns g c = written_at table_entry (with_row_security c.args.setting) c.args.tables.now c.args.index c.at_mut.result.now _ c.at_mut.ensures.value c.set.ensures
