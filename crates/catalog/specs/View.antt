-- The views of the Rust type of the catalogue as spec data.
use Rattle.std.specs.Prelude.{map}
use Rattle.row_objects.specs.MembershipView.{membership_of}
use Rattle.row_objects.specs.View.{role_of, table_entry}
use Rattle.catalog.specs.Catalog.{Catalog}
use Rattle.catalog.specs.declared.catalog.Catalog.TheInside.{Inside}

abbrev pub catalog_of : {A : Type 0} → Inside A → Catalog
catalog_of c = record { roles = map role_of c.roles; memberships = map membership_of c.memberships.items; tables = map table_entry c.tables; change_number = c.change_number }
