use Rattle.std.proofs.Common.{◌≡◌, ◌∙◌, Some, true, false, ap, length, map, get_or, sym, arith}
use Rattle.row_objects.specs.View.{table_of}
use Rattle.catalog.specs.Catalog.{is_role, table_named}
use Rattle.access_matrix.proofs.RowsRead.{it_is_there, its_columns, its_name, its_rows, no_columns, no_columns_of, no_rows, no_rows_of}
use Rattle.access_matrix.proofs.sights.sight_of.Goals as goal

pub returns-then-not-is_role : goal.returns-then-not-is_role
returns-then-not-is_role g c =
    let no : is_role c.args.store.now.catalog c.args.role.now ≡ false = sym (rw c.catalog-catalog.ensures.catalog at c.if-not-is_role.ensures) in
    let none = ap length c.nothing.ensures.rows in
    record {
      within = omega (arith, none);
      rows = λ number. ap (λ m. get_or m number false) c.nothing.ensures.rows ∙ no_rows c.args.store.now c.args.role.now c.args.table.now no number;
      columns = ap (λ l. map (λ n. n.now) l) c.nothing.ensures.columns ∙ no_columns c.args.store.now c.args.role.now c.args.table.now no;
    }

pub returns-in-None : goal.returns-in-None
returns-in-None g c =
    let none = ap length c.nothing-in-None.ensures.rows in
    record {
      within = omega (arith, none);
      rows = λ number. ap (λ m. get_or m number false) c.nothing-in-None.ensures.rows ∙ no_rows_of c.args.store.now c.args.role.now c.args.table.now (rw c.catalog-catalog.ensures.catalog at c.in-None.ensures) number;
      columns = ap (λ l. map (λ n. n.now) l) c.nothing-in-None.ensures.columns ∙ no_columns_of c.args.store.now c.args.role.now c.args.table.now (rw c.catalog-catalog.ensures.catalog at c.in-None.ensures);
    }

pub rows_read-requires-clause-there : goal.rows_read-requires-clause-there
rows_read-requires-clause-there g c = it_is_there c.args.store.now.catalog c.args.table.now (table_of c.in-Some.found) (rw c.catalog-catalog.ensures.catalog at c.in-Some.ensures)

pub returns-in_ok-read_columns-in-Some : goal.returns-in_ok-read_columns-in-Some
returns-in_ok-read_columns-in-Some g c =
    let a_role : is_role c.args.store.now.catalog c.args.role.now ≡ true = sym (rw c.catalog-catalog.ensures.catalog at c.if-not-is_role.ensures) in
    let found : Some (table_of c.in-Some.found) ≡ table_named c.args.table.now c.args.store.now.catalog = rw c.catalog-catalog.ensures.catalog at c.in-Some.ensures in
    record {
      within = rw (its_name c.args.store.now.catalog c.args.table.now (table_of c.in-Some.found) found) c.in_ok-rows_read-in-Some.ensures.within;
      rows = λ number. c.in_ok-rows_read-in-Some.ensures.each number ∙ its_rows c.args.store.now c.args.role.now c.args.table.now a_role (table_of c.in-Some.found) found number;
      columns = (rw c.catalog-catalog.ensures.catalog at c.in_ok-read_columns-in-Some.ensures) ∙ its_columns c.args.store.now c.args.role.now c.args.table.now a_role (table_of c.in-Some.found) found;
    }
