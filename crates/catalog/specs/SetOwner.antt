-- ALTER TABLE table OWNER TO owner.
use Rattle.std.specs.Prelude.{true, not, ◌&&◌, ◌||◌, List, [], ◌∷◌}
use Rattle.value.specs.declared.refusal.Refusal.TheVariants as r
use Rattle.value.specs.Names.{Name}
use Rattle.row_objects.specs.TableChanges.{with_owner}
use Rattle.catalog.specs.Catalog.{Catalog, belongs, is_role, is_superuser, table_named}
use Rattle.catalog.specs.Checks.{Check, if_found, with_table}

abbrev pub checks_set_owner : Catalog → Name → Name → Name → List Check
checks_set_owner cat actor table owner = if_found ((true, r.UndefinedTable) ∷ []) (λ t.
    (not (is_role cat owner), r.UndefinedObject)
    -- an actor that is no superuser must belong to both owners, the old and the new
    ∷ (not (is_superuser cat actor || (belongs cat actor t.owner && belongs cat actor owner)), r.InsufficientPrivilege) ∷ []) (table_named table cat)

abbrev pub after_set_owner : Catalog → Name → Name → Catalog
after_set_owner cat table owner = with_table cat table (with_owner owner)
