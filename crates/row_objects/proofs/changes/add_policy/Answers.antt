use Rattle.std.proofs.Common.{List, refl, ap, map}
use Rattle.std.proofs.lemmas.Result.{on_ok_weaker, on_err_weaker}
use Rattle.row_objects.specs.Objects.{Policy, Table}
use Rattle.row_objects.specs.View.{policy_of, table_entry}
use Rattle.row_objects.specs.TableChanges.{with_new_policy}
use Rattle.row_objects.proofs.Positions.{one_more, written_at, unchanged_at}
use Rattle.row_objects.proofs.changes.add_policy.Goals as goal

pub returns-clause-done : goal.returns-clause-done
returns-clause-done g c = on_ok_weaker c.push.result (λ d.
    written_at table_entry (with_new_policy (policy_of c.args.policy)) c.args.tables.now c.args.index c.at_mut-table.result.now _ c.at_mut-table.ensures.value
    (λ n. ap (λ (ps : List Policy). let t : Table = record (table_entry (n, c.at_mut-table.result.now)) { policies = ps } in t) (one_more policy_of _ _ c.args.policy _ d refl))) c.push.ensures.ok

pub returns-clause-unchanged : goal.returns-clause-unchanged
returns-clause-unchanged g c = on_err_weaker c.push.result (λ d.
    unchanged_at table_entry c.args.tables.now c.args.index c.at_mut-table.result.now _ c.at_mut-table.ensures.value
    (λ n. ap (λ ps. let t : Table = record (table_entry (n, c.at_mut-table.result.now)) { policies = map policy_of ps } in t) d)) c.push.ensures.err
