use Rattle.std.proofs.Common.{◌∙◌, ap, sym}
use Rattle.std.specs.Prelude.{slice_get}
use Rattle.row_objects.specs.View.{table_of}
use Rattle.tuples.specs.View.{guard_of}
use Rattle.store.specs.Database.{rows_of}
use Rattle.access_matrix.proofs.RowsRead.{none_counted, none_each, rows_there, seen_counted, seen_each, seen_within}
use Rattle.access_matrix.proofs.reading.rows_read.Goals as goal

pub returns-then-not-is_granted_by-clause-counted : goal.returns-then-not-is_granted_by-clause-counted
returns-then-not-is_granted_by-clause-counted g c =
    rw c.new.ensures (none_counted c.args.store.now.catalog c.args.role.now (table_of c.args.table) (sym (rw c.catalog-catalog.ensures.catalog at c.if-not-is_granted_by.ensures)) (rows_of c.args.store.now (table_of c.args.table).name))

pub returns-then-not-is_granted_by-clause-each : goal.returns-then-not-is_granted_by-clause-each
returns-then-not-is_granted_by-clause-each g c =
    rw c.new.ensures (λ number. none_each c.args.store.now.catalog c.args.role.now (table_of c.args.table) (sym (rw c.catalog-catalog.ensures.catalog at c.if-not-is_granted_by.ensures)) (slice_get (rows_of c.args.store.now (table_of c.args.table).name) number))

pub returns-clause-within : goal.returns-clause-within
returns-clause-within g c =
    seen_within c.args.store.now.catalog c.args.role.now (table_of c.args.table) (sym (rw c.catalog-catalog.ensures.catalog at c.if-not-is_granted_by.ensures)) (guard_of c.in_ok-guard.guard) (rw c.catalog-catalog.ensures.catalog at c.in_ok-guard.ensures.shows)
    (rows_of c.args.store.now (table_of c.args.table).name) c.contents_of.result.now.rows
    (ap (λ n. rows_of c.args.store.now n) (sym c.name.ensures) ∙ rows_there c.args.store.now c.name.result.now c.contents_of.result.now c.contents_of.ensures) c.seen_rows.result c.seen_rows.ensures

pub returns-clause-counted : goal.returns-clause-counted
returns-clause-counted g c =
    seen_counted c.args.store.now.catalog c.args.role.now (table_of c.args.table) (sym (rw c.catalog-catalog.ensures.catalog at c.if-not-is_granted_by.ensures)) (guard_of c.in_ok-guard.guard) (rw c.catalog-catalog.ensures.catalog at c.in_ok-guard.ensures.shows)
    (rows_of c.args.store.now (table_of c.args.table).name) c.contents_of.result.now.rows
    (ap (λ n. rows_of c.args.store.now n) (sym c.name.ensures) ∙ rows_there c.args.store.now c.name.result.now c.contents_of.result.now c.contents_of.ensures) c.seen_rows.result c.seen_rows.ensures

pub returns-clause-each : goal.returns-clause-each
returns-clause-each g c =
    seen_each c.args.store.now.catalog c.args.role.now (table_of c.args.table) (sym (rw c.catalog-catalog.ensures.catalog at c.if-not-is_granted_by.ensures)) (guard_of c.in_ok-guard.guard) (rw c.catalog-catalog.ensures.catalog at c.in_ok-guard.ensures.shows)
    (rows_of c.args.store.now (table_of c.args.table).name) c.contents_of.result.now.rows
    (ap (λ n. rows_of c.args.store.now n) (sym c.name.ensures) ∙ rows_there c.args.store.now c.name.result.now c.contents_of.result.now c.contents_of.ensures) c.seen_rows.result c.seen_rows.ensures
