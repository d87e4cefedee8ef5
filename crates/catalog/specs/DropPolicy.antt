-- DROP POLICY name ON table.
use Rattle.std.specs.Prelude.{true, not, List, [], ◌∷◌}
use Rattle.value.specs.declared.refusal.Refusal.TheVariants as r
use Rattle.value.specs.Names.{Name}
use Rattle.row_objects.specs.Policies.{has_policy}
use Rattle.row_objects.specs.TableChanges.{without_policy_named}
use Rattle.catalog.specs.Catalog.{Catalog, owns, table_named}
use Rattle.catalog.specs.Checks.{Check, if_found, with_table}

abbrev pub checks_drop_policy : Catalog → Name → Name → Name → List Check
checks_drop_policy cat actor name table = if_found ((true, r.UndefinedTable) ∷ []) (λ t.
    (not (owns cat actor t), r.InsufficientPrivilege)
    ∷ (not (has_policy t.policies name), r.UndefinedObject) ∷ []) (table_named table cat)

abbrev pub after_drop_policy : Catalog → Name → Name → Catalog
after_drop_policy cat name table = with_table cat table (without_policy_named name)
