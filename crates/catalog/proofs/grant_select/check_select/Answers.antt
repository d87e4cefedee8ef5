use Rattle.std.proofs.Common.{◌≡◌, true, false, List, Some, None, refl, sym}
use Rattle.std.specs.List.{list_all}
use Rattle.value.specs.Columns.{Column}
use Rattle.value.specs.declared.refusal.Refusal.TheVariants as r
use Rattle.row_ast.specs.Ast.{Grant}
use Rattle.value.specs.Names.{Name}
use Rattle.row_ast.specs.View.{grant_of}
use Rattle.row_objects.specs.ColumnNames.{are_columns}
use Rattle.row_objects.specs.Objects.{Table}
use Rattle.row_objects.specs.View.{table_of}
use Rattle.catalog.specs.Catalog.{Catalog, is_known, owns, table_named}
use Rattle.catalog.specs.Checks.{first_refusal}
use Rattle.catalog.specs.GrantSelect.{checks_select}
use Rattle.catalog.proofs.grant_select.check_select.Goals as goal

module _ (cat : Catalog) (actor : Name) (grant : Grant) (name : Name) (is : name ≡ grant.table) where
  no_table : None ≡ table_named name cat → first_refusal (checks_select cat actor grant) ≡ Some r.UndefinedTable
  no_table none = rw (← is, ← none) refl

  module _ (t : Table) (found : Some t ≡ table_named name cat) where
    no_owner : false ≡ owns cat actor t → first_refusal (checks_select cat actor grant) ≡ Some r.InsufficientPrivilege
    no_owner other = rw (← is, ← found, ← other) refl

    module _ (owner : true ≡ owns cat actor t) (columns : List Column) (its : columns ≡ t.columns) where
      no_columns : false ≡ are_columns columns grant.columns → first_refusal (checks_select cat actor grant) ≡ Some r.UndefinedColumn
      no_columns other = rw (← is, ← found, ← owner, ← its, ← other) refl

      module _ (theirs : true ≡ are_columns columns grant.columns) (roles : List Name) (same : roles ≡ grant.roles) where
        no_roles : false ≡ list_all (is_known cat) roles → first_refusal (checks_select cat actor grant) ≡ Some r.UndefinedObject
        no_roles unknown = rw (← is, ← found, ← owner, ← its, ← theirs, ← same, ← unknown) refl

        none_refuses : true ≡ list_all (is_known cat) roles → first_refusal (checks_select cat actor grant) ≡ None
        none_refuses known = rw (← is, ← found, ← owner, ← its, ← theirs, ← same, ← known) refl

pub returns-in_default : goal.returns-in_default
returns-in_default g c = record {
  checked = no_table c.args.catalog.now c.args.actor.now (grant_of c.args.grant.now) c.as_str.result.now c.as_str.ensures (rw (c.in_default.is) at c.find_table.ensures.table);
  within = tt;
}

pub returns-then-not-owns : goal.returns-then-not-owns
returns-then-not-owns g c = record {
  checked = no_owner c.args.catalog.now c.args.actor.now (grant_of c.args.grant.now) c.as_str.result.now c.as_str.ensures (table_of c.in-Some.table) c.in-Some.ensures.table
      c.if-not-owns.ensures;
  within = tt;
}

pub returns-then-not-are_columns : goal.returns-then-not-are_columns
returns-then-not-are_columns g c = record {
  checked = no_columns c.args.catalog.now c.args.actor.now (grant_of c.args.grant.now) c.as_str.result.now c.as_str.ensures (table_of c.in-Some.table) c.in-Some.ensures.table
      c.if-not-owns.ensures _ c.columns.ensures c.if-not-are_columns.ensures;
  within = tt;
}

pub returns-then-not-are_known : goal.returns-then-not-are_known
returns-then-not-are_known g c = record {
  checked = no_roles c.args.catalog.now c.args.actor.now (grant_of c.args.grant.now) c.as_str.result.now c.as_str.ensures (table_of c.in-Some.table) c.in-Some.ensures.table
      c.if-not-owns.ensures _ c.columns.ensures c.if-not-are_columns.ensures c.as_slice.result.now c.as_slice.ensures c.if-not-are_known.ensures;
  within = tt;
}

pub returns-else-not-are_known : goal.returns-else-not-are_known
returns-else-not-are_known g c = record {
  checked = (
    none_refuses c.args.catalog.now c.args.actor.now (grant_of c.args.grant.now) c.as_str.result.now c.as_str.ensures (table_of c.in-Some.table) c.in-Some.ensures.table
        c.if-not-owns.ensures _ c.columns.ensures c.if-not-are_columns.ensures c.as_slice.result.now c.as_slice.ensures c.if-not-are_known.ensures,
    rw (← c.as_str.ensures) (sym c.in-Some.ensures.index),
  );
  within = c.in-Some.ensures.within;
}
