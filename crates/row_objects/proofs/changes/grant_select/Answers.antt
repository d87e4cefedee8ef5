use Rattle.std.proofs.Common.{List, ap, map}
use Rattle.std.proofs.lemmas.Result.{on_ok_weaker, on_err_weaker}
use Rattle.row_ast.specs.View.{grant_of as written}
use Rattle.row_objects.specs.Grants.{Grant}
use Rattle.row_objects.specs.Objects.{Table}
use Rattle.row_objects.specs.View.{grant_of, table_entry}
use Rattle.row_objects.specs.TableChanges.{with_grants_to}
use Rattle.row_objects.proofs.Positions.{written_at, unchanged_at}
use Rattle.row_objects.proofs.changes.grant_select.Goals as goal

pub returns-clause-done : goal.returns-clause-done
returns-clause-done g c =
    let done = rw (c.as_slice.ensures) at c.add_grants.ensures.done in
    on_ok_weaker c.add_grants.result (λ d.
    written_at table_entry (with_grants_to (written c.args.grant.now)) c.args.tables.now c.args.index c.at_mut-table.result.now _ c.at_mut-table.ensures.value
    (λ n. ap (λ (gs : List Grant). let t : Table = record (table_entry (n, c.at_mut-table.result.now)) { grants = gs } in t) d)) done

pub returns-clause-unchanged : goal.returns-clause-unchanged
returns-clause-unchanged g c = on_err_weaker c.add_grants.result (λ d.
    unchanged_at table_entry c.args.tables.now c.args.index c.at_mut-table.result.now _ c.at_mut-table.ensures.value
    (λ n. ap (λ gs. let t : Table = record (table_entry (n, c.at_mut-table.result.now)) { grants = map grant_of gs } in t) d)) c.add_grants.ensures.unchanged
