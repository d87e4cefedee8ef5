-- The views of the Rust types of required privileges and guards as spec data.
use Rattle.std.specs.Prelude.{List, map, option_map}
use Rattle.row_objects.specs.View.{table_of}
use Rattle.access.specs.Access.{RequiredPrivilege}
use Rattle.access.specs.declared.privileges.RequiredPrivilege as declared

abbrev pub privilege_of : {A : Type 0} → declared.RequiredPrivilege A → RequiredPrivilege
privilege_of p = record { table = table_of p.table; column = option_map (λ c. c.now) p.column }

abbrev pub privileges_of : {A : Type 0} → List (declared.RequiredPrivilege A) → List RequiredPrivilege
privileges_of privileges = map (λ p. privilege_of p) privileges
