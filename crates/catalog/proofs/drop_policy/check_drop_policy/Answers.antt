use Rattle.std.proofs.Common.{◌≡◌, true, false, List, Some, None, refl, sym}
use Rattle.value.specs.declared.refusal.Refusal.TheVariants as r
use Rattle.value.specs.Names.{Name}
use Rattle.row_objects.specs.Objects.{Policy, Table}
use Rattle.row_objects.specs.Policies.{has_policy}
use Rattle.row_objects.specs.View.{table_of}
use Rattle.catalog.specs.Catalog.{Catalog, owns, table_named}
use Rattle.catalog.specs.Checks.{first_refusal}
use Rattle.catalog.specs.DropPolicy.{checks_drop_policy}
use Rattle.catalog.proofs.drop_policy.check_drop_policy.Goals as goal

module _ (cat : Catalog) (actor name table : Name) where
  no_table : None ≡ table_named table cat → first_refusal (checks_drop_policy cat actor name table) ≡ Some r.UndefinedTable
  no_table none = rw (← none) refl

  module _ (t : Table) (found : Some t ≡ table_named table cat) where
    no_owner : false ≡ owns cat actor t → first_refusal (checks_drop_policy cat actor name table) ≡ Some r.InsufficientPrivilege
    no_owner other = rw (← found, ← other) refl

    module _ (owner : true ≡ owns cat actor t) (policies : List Policy) (its : policies ≡ t.policies) where
      no_policy : false ≡ has_policy policies name → first_refusal (checks_drop_policy cat actor name table) ≡ Some r.UndefinedObject
      no_policy none = rw (← found, ← owner, ← its, ← none) refl

      none_refuses : true ≡ has_policy policies name → first_refusal (checks_drop_policy cat actor name table) ≡ None
      none_refuses there = rw (← found, ← owner, ← its, ← there) refl

pub returns-in_default : goal.returns-in_default
returns-in_default g c = record {
  checked = no_table c.args.catalog.now c.args.actor.now c.args.name.now c.args.table.now (rw (c.in_default.is) at c.find_table.ensures.table);
  within = tt;
}

pub returns-then-not-owns : goal.returns-then-not-owns
returns-then-not-owns g c = record {
  checked = no_owner c.args.catalog.now c.args.actor.now c.args.name.now c.args.table.now (table_of c.in-Some.table) c.in-Some.ensures.table c.if-not-owns.ensures;
  within = tt;
}

pub returns-then-not-has_policy : goal.returns-then-not-has_policy
returns-then-not-has_policy g c = record {
  checked = no_policy c.args.catalog.now c.args.actor.now c.args.name.now c.args.table.now (table_of c.in-Some.table) c.in-Some.ensures.table c.if-not-owns.ensures
      _ c.policies.ensures c.if-not-has_policy.ensures;
  within = tt;
}

pub returns-else-not-has_policy : goal.returns-else-not-has_policy
returns-else-not-has_policy g c = record {
  checked = (
    none_refuses c.args.catalog.now c.args.actor.now c.args.name.now c.args.table.now (table_of c.in-Some.table) c.in-Some.ensures.table c.if-not-owns.ensures
        _ c.policies.ensures c.if-not-has_policy.ensures,
    sym c.in-Some.ensures.index,
  );
  within = c.in-Some.ensures.within;
}
