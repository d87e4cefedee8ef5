use Rattle.std.proofs.Common.{List, ap}
use Rattle.row_objects.specs.Objects.{Policy, Table}
use Rattle.row_objects.specs.View.{table_entry}
use Rattle.row_objects.specs.TableChanges.{without_policy_named}
use Rattle.row_objects.proofs.Positions.{written_at}
use Rattle.row_objects.proofs.changes.drop_policy.Goals as goal

pub returns : goal.returns
returns g c =
    written_at table_entry (without_policy_named c.args.name.now) c.args.tables.now c.args.index c.at_mut-table.result.now _ c.at_mut-table.ensures.value
    (λ n. ap (λ (ps : List Policy). let t : Table = record (table_entry (n, c.at_mut-table.result.now)) { policies = ps } in t) c.remove_policy.ensures)
