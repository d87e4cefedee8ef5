use Rattle.std.proofs.Common.{List, ap}
use Rattle.row_ast.specs.View.{grant_of}
use Rattle.row_objects.specs.Grants.{Grant}
use Rattle.row_objects.specs.Objects.{Table}
use Rattle.row_objects.specs.View.{table_entry}
use Rattle.row_objects.specs.TableChanges.{without_grants_to}
use Rattle.row_objects.proofs.Positions.{written_at}
use Rattle.row_objects.proofs.changes.revoke_select.Goals as goal

pub returns : goal.returns
returns g c =
    let done = rw (c.as_slice.ensures) at c.remove_grants.ensures in
    written_at table_entry (without_grants_to (grant_of c.args.grant.now)) c.args.tables.now c.args.index c.at_mut-table.result.now _ c.at_mut-table.ensures.value
    (λ n. ap (λ (gs : List Grant). let t : Table = record (table_entry (n, c.at_mut-table.result.now)) { grants = gs } in t) done)
