-- A catalogue: its roles, memberships and tables, and tests of them by name.
use Rattle.std.specs.Prelude.{ℕ, Bool, true, false, ◌||◌, codes, List, [], ◌∷◌, Option, Some, None, is_some}
use Rattle.std.specs.Str.{bytes_eq}
use Rattle.std.specs.List.{find, position_from}
use Rattle.value.specs.Names.{Name, everyone}
use Rattle.row_objects.specs.Memberships.{Membership, belongs_by}
use Rattle.row_objects.specs.Objects.{Role, Table}
use Rattle.row_objects.specs.Indexes.{any_index}
pub use Rattle.row_objects.specs.ColumnNames.{column_named, column_index, is_qualified}

-- roles, memberships and tables, each in order of creation, and the number of accepted statements
pub record Catalog : Type 0 where
  pub roles : List Role
  pub memberships : List Membership
  pub tables : List Table
  pub change_number : ℕ

-- a catalogue at first: the superuser root alone
abbrev pub at_first : Catalog
at_first = record { roles = record { name = codes "root"; superuser = true; bypass_rls = false } ∷ []; memberships = []; tables = []; change_number = 0 }

-- ---- roles

abbrev pub role_named : Name → Catalog → Option Role
role_named name cat = find (λ role. bytes_eq name role.name) cat.roles

abbrev pub is_role : Catalog → Name → Bool
is_role cat name = is_some (role_named name cat)

abbrev pub has_superuser : Option Role → Bool
has_superuser None = false
has_superuser (Some role) = role.superuser

abbrev pub is_superuser : Catalog → Name → Bool
is_superuser cat name = has_superuser (role_named name cat)

abbrev pub has_bypass_rls : Option Role → Bool
has_bypass_rls None = false
has_bypass_rls (Some role) = role.bypass_rls

abbrev pub bypasses_rls : Catalog → Name → Bool
bypasses_rls cat name = has_bypass_rls (role_named name cat)

-- r is s, or memberships lead from r to s
abbrev pub belongs : Catalog → Name → Name → Bool
belongs cat r s = belongs_by cat.memberships r s

-- a role, or all
abbrev pub is_known : Catalog → Name → Bool
is_known cat name = bytes_eq name everyone || is_role cat name

-- ---- tables

abbrev pub table_named : Name → Catalog → Option Table
table_named name cat = find (λ t. bytes_eq name t.name) cat.tables

-- the index of the table of that name
abbrev pub table_index : Name → Catalog → Option ℕ
table_index name cat = position_from (λ t. bytes_eq name t.name) 0 cat.tables

abbrev pub is_table : Catalog → Name → Bool
is_table cat name = is_some (table_named name cat)

-- one of the tables has an index of that name
abbrev pub is_index : Catalog → Name → Bool
is_index cat name = any_index name cat.tables

-- the actor is a superuser, or belongs to the owner
abbrev pub owns : Catalog → Name → Table → Bool
owns cat actor t = is_superuser cat actor || belongs cat actor t.owner
