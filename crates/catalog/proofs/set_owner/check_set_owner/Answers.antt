use Rattle.std.proofs.Common.{◌≡◌, ◌&&◌, ◌||◌, true, false, Some, None, refl, sym}
use Rattle.value.specs.declared.refusal.Refusal.TheVariants as r
use Rattle.value.specs.Names.{Name}
use Rattle.row_objects.specs.Objects.{Table}
use Rattle.row_objects.specs.View.{table_of}
use Rattle.catalog.specs.Catalog.{Catalog, belongs, is_role, is_superuser, table_named}
use Rattle.catalog.specs.Checks.{first_refusal}
use Rattle.catalog.specs.SetOwner.{checks_set_owner}
use Rattle.catalog.proofs.set_owner.check_set_owner.Goals as goal

module _ (cat : Catalog) (actor table owner : Name) where
  no_table : None ≡ table_named table cat → first_refusal (checks_set_owner cat actor table owner) ≡ Some r.UndefinedTable
  no_table none = rw (← none) refl

  module _ (t : Table) (found : Some t ≡ table_named table cat) where
    no_role : false ≡ is_role cat owner → first_refusal (checks_set_owner cat actor table owner) ≡ Some r.UndefinedObject
    no_role other = rw (← found, ← other) refl

    module _ (role : true ≡ is_role cat owner) where
      may_not : false ≡ (is_superuser cat actor || (belongs cat actor t.owner && belongs cat actor owner)) → first_refusal (checks_set_owner cat actor table owner) ≡ Some r.InsufficientPrivilege
      may_not other = rw (← found, ← role, ← other) refl

      none_refuses : true ≡ (is_superuser cat actor || (belongs cat actor t.owner && belongs cat actor owner)) → first_refusal (checks_set_owner cat actor table owner) ≡ None
      none_refuses may = rw (← found, ← role, ← may) refl

pub returns-in_default : goal.returns-in_default
returns-in_default g c = record {
  checked = no_table c.args.catalog.now c.args.actor.now c.args.table.now c.args.owner.now (rw (c.in_default.is) at c.find_table.ensures.table);
  within = tt;
}

pub returns-then-not-is_role : goal.returns-then-not-is_role
returns-then-not-is_role g c = record {
  checked = no_role c.args.catalog.now c.args.actor.now c.args.table.now c.args.owner.now (table_of c.in-Some.table) c.in-Some.ensures.table c.if-not-is_role.ensures;
  within = tt;
}

pub returns-then-not-may_give : goal.returns-then-not-may_give
returns-then-not-may_give g c = record {
  checked = may_not c.args.catalog.now c.args.actor.now c.args.table.now c.args.owner.now (table_of c.in-Some.table) c.in-Some.ensures.table c.if-not-is_role.ensures c.if-not-may_give.ensures;
  within = tt;
}

pub returns-else-not-may_give : goal.returns-else-not-may_give
returns-else-not-may_give g c = record {
  checked = (
    none_refuses c.args.catalog.now c.args.actor.now c.args.table.now c.args.owner.now (table_of c.in-Some.table) c.in-Some.ensures.table c.if-not-is_role.ensures c.if-not-may_give.ensures,
    sym c.in-Some.ensures.index,
  );
  within = c.in-Some.ensures.within;
}
