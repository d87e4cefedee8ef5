use Rattle.std.proofs.Common.{List, refl, ap, map, Result, Ok, Err, OnErr}
use Rattle.row_objects.specs.Objects.{Index, Table}
use Rattle.row_objects.specs.View.{index_of, table_entry}
use Rattle.row_objects.specs.TableChanges.{with_last, with_index}
use Rattle.row_objects.proofs.Positions.{one_made, written_at, unchanged_at}
use Rattle.row_objects.proofs.changes.add_index.Goals as goal

on_err : {T E P : Type 0} (r : Result T E) → P → OnErr r P
on_err (Ok x) p = tt
on_err (Err e) p = p

pub returns-in_err-made-clause-unchanged : goal.returns-in_err-made-clause-unchanged
returns-in_err-made-clause-unchanged g c = on_err c.from_residual.result (unchanged_at table_entry c.args.tables.now c.args.index c.at_mut-table.result.now _ c.at_mut-table.ensures.value (λ n. refl))

pub returns-in_err-push-clause-unchanged : goal.returns-in_err-push-clause-unchanged
returns-in_err-push-clause-unchanged g c = on_err c.from_residual-in_err-push.result (
    unchanged_at table_entry c.args.tables.now c.args.index c.at_mut-table.result.now _ c.at_mut-table.ensures.value
    (λ n. ap (λ ps. let t : Table = record (table_entry (n, c.at_mut-table.result.now)) { indexes = map index_of ps } in t) c.in_err-push.ensures.err))

pub returns-in_ok-push-clause-done : goal.returns-in_ok-push-clause-done
returns-in_ok-push-clause-done g c =
    let made = rw (c.in-Some.is, c.as_slice.ensures) at c.in_ok-made.ensures in
    written_at table_entry (with_index c.args.name.now c.args.column.now) c.args.tables.now c.args.index c.at_mut-table.result.now _ c.at_mut-table.ensures.value
    (λ n. ap (λ (ps : List Index). let t : Table = record (table_entry (n, c.at_mut-table.result.now)) { indexes = ps } in t) (one_made index_of _ _ c.in-Some.made _ c.in_ok-push.ensures.ok made))

pub returns-in_default-clause-done : goal.returns-in_default-clause-done
returns-in_default-clause-done g c =
    let none = rw (c.in_default.is, c.as_slice.ensures) at c.in_ok-made.ensures in
    written_at table_entry (with_index c.args.name.now c.args.column.now) c.args.tables.now c.args.index c.at_mut-table.result.now _ c.at_mut-table.ensures.value
    (λ n. ap (λ o. let t : Table = record (table_entry (n, c.at_mut-table.result.now)) { indexes = with_last (map index_of c.at_mut-table.result.now.indexes) o } in t) none)
