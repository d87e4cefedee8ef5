-- GRANT twice, and the grants that a REVOKE takes and leaves.
use Rattle.std.specs.Prelude.{◌≡◌, Bool, false, List, [], filter, Option, Some, None, is_none, IsTrue}
use Rattle.std.specs.Str.{bytes_eq}
use Rattle.std.specs.List.{list_all, list_any}
use Rattle.row_ast.specs.Ast as ast
use Rattle.value.specs.Names.{Name}
use Rattle.row_ast.specs.Statements.{GrantSelect, RevokeSelect}
use Rattle.row_objects.specs.Grants.{Grant, grants_to_all, has_grant}
use Rattle.catalog.specs.Catalog.{Catalog, is_table, table_named}
use Rattle.catalog.specs.Checks.{if_found}
use Rattle.catalog.specs.Changes.{after}

-- ---- GRANT twice

-- the table is there, and the roles hold SELECT on the whole of it, or on each of the columns
abbrev pub are_granted : Catalog → ast.Grant → Bool
are_granted cat grant = if_found false (λ t. list_all (has_grant t.grants) (grants_to_all grant.columns grant.roles)) (table_named grant.table cat)

-- after a GRANT on a table its roles hold the granted privileges
abbrev pub IsGranted : Type 0
IsGranted = (cat : Catalog) (actor : Name) (grant : ast.Grant) → IsTrue (is_table cat grant.table) → IsTrue (are_granted (after cat actor (GrantSelect grant)) grant)

-- granting them again leaves the catalogue as it is
abbrev pub GrantedAgain : Type 0
GrantedAgain = (cat : Catalog) (actor : Name) (grant : ast.Grant) → IsTrue (are_granted cat grant) → after cat actor (GrantSelect grant) ≡ cat

-- ---- REVOKE

-- the grants on a table and its columns
abbrev pub grants_on : Catalog → Name → List Grant
grants_on cat table = if_found [] (λ t. t.grants) (table_named table cat)

-- those to a role
abbrev pub held_by : Name → List Grant → List Grant
held_by role gs = filter (λ g. bytes_eq g.to role) gs

-- those on a whole table
abbrev pub on_table : List Grant → List Grant
on_table gs = filter (λ g. is_none g.column) gs

abbrev pub after_revoke : Catalog → Name → Option (List Name) → Name → List Name → Catalog
after_revoke cat actor columns table roles = after cat actor (RevokeSelect record { columns = columns; table = table; roles = roles })

-- after a REVOKE on a table its roles hold no grant on it or on its columns
abbrev pub RevokedTable : Type 0
RevokedTable = (cat : Catalog) (actor table role : Name) (roles : List Name) → IsTrue (list_any (bytes_eq role) roles) → held_by role (grants_on (after_revoke cat actor None table roles) table) ≡ []

-- a REVOKE on columns leaves the grants on the whole table
abbrev pub RevokedColumns : Type 0
RevokedColumns = (cat : Catalog) (actor table : Name) (columns roles : List Name) → on_table (grants_on (after_revoke cat actor (Some columns) table roles) table) ≡ on_table (grants_on cat table)
