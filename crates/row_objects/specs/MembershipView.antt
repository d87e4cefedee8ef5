-- The views of the Rust type of memberships as spec data.
use Rattle.std.specs.Prelude.{List, map}
use Rattle.row_objects.specs.declared.memberships.Membership as declared
use Rattle.row_objects.specs.Memberships.{Membership}

abbrev pub membership_of : {A : Type 0} → declared.Membership A → Membership
membership_of m = record { member = m.member; group = m.group }

abbrev pub memberships_of : {A : Type 0} → List (declared.Membership A) → List Membership
memberships_of memberships = map (λ m. membership_of m) memberships
