use Rattle.std.proofs.Common.{◌≡◌, ℕ, true, false, List, Option, Some, None, refl, sym}
use Rattle.value.specs.Columns.{Column}
use Rattle.value.specs.declared.refusal.Refusal.{Refusal}
use Rattle.value.specs.declared.refusal.Refusal.TheVariants as r
use Rattle.value.specs.Names.{Name}
use Rattle.row_objects.specs.Objects.{Table}
use Rattle.row_objects.specs.View.{table_of}
use Rattle.catalog.specs.Catalog.{Catalog, owns, column_index, table_named}
use Rattle.catalog.specs.Checks.{first_refusal}
use Rattle.catalog.specs.CreateIndex.{checks_create_index, checks_new_index}
use Rattle.catalog.proofs.create_index.check_create_index.Goals as goal

module _ (cat : Catalog) (actor name table column : Name) where
  no_table : None ≡ table_named table cat → first_refusal (checks_create_index cat actor name table column) ≡ Some r.UndefinedTable
  no_table none = rw (← none) refl

  module _ (t : Table) (found : Some t ≡ table_named table cat) where
    no_owner : false ≡ owns cat actor t → first_refusal (checks_create_index cat actor name table column) ≡ Some r.InsufficientPrivilege
    no_owner other = rw (← found, ← other) refl

    module _ (owner : true ≡ owns cat actor t) (columns : List Column) (its : columns ≡ t.columns) where
      no_column : None ≡ column_index columns column → first_refusal (checks_create_index cat actor name table column) ≡ Some r.UndefinedColumn
      no_column none = rw (← found, ← owner, ← its, ← none) refl

      as_new : (index : ℕ) → Some index ≡ column_index columns column → (o : Option Refusal) → o ≡ first_refusal (checks_new_index cat name t index)
          → first_refusal (checks_create_index cat actor name table column) ≡ o
      as_new index at o is = rw (← found, ← owner, ← its, ← at) (sym is)

pub returns-in_default : goal.returns-in_default
returns-in_default g c = record {
  checked = no_table c.args.catalog.now c.args.actor.now c.args.name.now c.args.table.now c.args.column.now (rw (c.in_default.is) at c.find_table.ensures.table);
  within = tt;
}

pub returns-then-not-owns : goal.returns-then-not-owns
returns-then-not-owns g c = record {
  checked = no_owner c.args.catalog.now c.args.actor.now c.args.name.now c.args.table.now c.args.column.now (table_of c.in-Some.table) c.in-Some.ensures.table c.if-not-owns.ensures;
  within = tt;
}

pub returns-in_default-column_index : goal.returns-in_default-column_index
returns-in_default-column_index g c = record {
  checked = no_column c.args.catalog.now c.args.actor.now c.args.name.now c.args.table.now c.args.column.now (table_of c.in-Some.table) c.in-Some.ensures.table c.if-not-owns.ensures
      _ c.columns.ensures (rw (c.in_default-column_index.is) at c.column_index.ensures);
  within = tt;
}

pub returns-in-Some-check_new_index : goal.returns-in-Some-check_new_index
returns-in-Some-check_new_index g c = record {
  checked = as_new c.args.catalog.now c.args.actor.now c.args.name.now c.args.table.now c.args.column.now (table_of c.in-Some.table) c.in-Some.ensures.table c.if-not-owns.ensures
      _ c.columns.ensures c.in-Some-column_index.column c.in-Some-column_index.ensures _ c.in-Some-check_new_index.ensures;
  within = tt;
}

pub returns-in-None : goal.returns-in-None
returns-in-None g c = record {
  checked = (
    as_new c.args.catalog.now c.args.actor.now c.args.name.now c.args.table.now c.args.column.now (table_of c.in-Some.table) c.in-Some.ensures.table c.if-not-owns.ensures
        _ c.columns.ensures c.in-Some-column_index.column c.in-Some-column_index.ensures _ c.in-None.ensures,
    sym c.in-Some.ensures.index,
  );
  within = c.in-Some.ensures.within;
}
