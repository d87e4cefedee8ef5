-- CREATE ROLE name [SUPERUSER] [BYPASSRLS].
use Rattle.std.specs.Prelude.{Bool, not, List, [], ◌∷◌, ◌++◌}
use Rattle.value.specs.declared.refusal.Refusal.TheVariants as r
use Rattle.value.specs.Names.{Name}
use Rattle.row_objects.specs.Memberships.{most_roles}
use Rattle.catalog.specs.Catalog.{Catalog, is_known, is_superuser}
use Rattle.catalog.specs.Checks.{Check, is_full}

abbrev pub checks_create_role : Catalog → Name → Name → List Check
checks_create_role cat actor name =
    (not (is_superuser cat actor), r.InsufficientPrivilege)
    ∷ (is_known cat name, r.DuplicateObject)
    ∷ (is_full most_roles cat.roles, r.ProgramLimitExceeded) ∷ []

abbrev pub after_create_role : Catalog → Name → Bool → Bool → Catalog
after_create_role cat name superuser bypass_rls = record cat { roles = cat.roles ++ record { name = name; superuser = superuser; bypass_rls = bypass_rls } ∷ [] }
