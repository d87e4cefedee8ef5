-- GRANT group TO member.
use Rattle.std.specs.Prelude.{not, ◌&&◌, List, [], ◌∷◌}
use Rattle.value.specs.declared.refusal.Refusal.TheVariants as r
use Rattle.value.specs.Names.{Name}
use Rattle.row_objects.specs.Memberships.{closes_loop, with_membership}
use Rattle.catalog.specs.Catalog.{Catalog, is_role, is_superuser}
use Rattle.catalog.specs.Checks.{Check}

abbrev pub checks_grant_role : Catalog → Name → Name → Name → List Check
checks_grant_role cat actor group member =
    (not (is_superuser cat actor), r.InsufficientPrivilege)
    ∷ (not (is_role cat group && is_role cat member), r.UndefinedObject)
    ∷ (closes_loop cat.memberships group member, r.InvalidGrantOperation) ∷ []

abbrev pub after_grant_role : Catalog → Name → Name → Catalog
after_grant_role cat group member = record cat { memberships = with_membership group member cat.memberships }
