-- What GRANT SELECT gives, and what REVOKE SELECT takes.
use Rattle.std.specs.Prelude.{◌≡◌, ◌≢◌, ◌⊎◌, ◌↔◌, List, [], map, Contains, Option, Some, None, Ok, IsTrue, ⊤}
use Rattle.row_ast.specs.Ast as ast
use Rattle.value.specs.Names.{Name}
use Rattle.row_ast.specs.Statements.{GrantSelect, RevokeSelect}
use Rattle.row_objects.specs.Grants.{Grant}
use Rattle.row_objects.specs.Objects.{Table}
use Rattle.catalog.specs.Catalog.{Catalog, table_named}
use Rattle.catalog.specs.Changes.{changed}
use Rattle.catalog.specs.Granted.{grants_on}
use Rattle.access.specs.Access.{covers, granted, includes_role, select_on}

-- SELECT on any part of a table is granted exactly where SELECT on some column is
abbrev pub AnyPart : Type 0
AnyPart = (cat : Catalog) (r : Name) (t : Table) → IsTrue (granted cat r record { table = t; column = None }) ↔ ((name : Name) × IsTrue (granted cat r (select_on t name)))

-- ---- one table's grants

-- each other table is as it was
abbrev pub KeepsOthers : Catalog → Catalog → Name → Type 0
KeepsOthers cat new table = (name : Name) → name ≢ table → table_named name new ≡ table_named name cat

abbrev pub without_its_grants : Table → Table
without_its_grants t = record t { grants = [] }

-- all but the grants is as it was: roles, memberships, and the rest of each table
pub record IsSameButGrants (cat new : Catalog) : Type 0 where
  pub roles : new.roles ≡ cat.roles
  pub memberships : new.memberships ≡ cat.memberships
  pub tables : map without_its_grants new.tables ≡ map without_its_grants cat.tables

-- GRANT and REVOKE on a table change grants alone
abbrev pub ChangeGrantsAlone : Type 0
ChangeGrantsAlone = (cat new : Catalog) (actor : Name) (grant : ast.Grant) → (changed cat actor (GrantSelect grant) ≡ Ok new) ⊎ (changed cat actor (RevokeSelect grant) ≡ Ok new) → IsSameButGrants cat new

-- ---- GRANT

-- the part that is granted: the whole table, or one of the columns
abbrev pub GivesPart : Option (List Name) → Option Name → Type 0
GivesPart None None = ⊤
GivesPart None (Some column) = ⊥
GivesPart (Some columns) None = ⊥
GivesPart (Some columns) (Some column) = Contains columns column

-- the statement gives the grant: to one of its roles, on the whole table or on one of its columns
abbrev pub Gives : ast.Grant → Grant → Type 0
Gives grant g = Contains grant.roles g.to × GivesPart grant.columns g.column

-- after a GRANT a grant is on the table exactly where it was before, or the statement gives it
abbrev pub GrantsAfterGrant : Type 0
GrantsAfterGrant = (cat new : Catalog) (actor : Name) (grant : ast.Grant) → changed cat actor (GrantSelect grant) ≡ Ok new
    → ((g : Grant) → Contains (grants_on new grant.table) g ↔ (Contains (grants_on cat grant.table) g ⊎ Gives grant g)) × KeepsOthers cat new grant.table

-- every column where the grant is on the whole table, else those that it names
abbrev pub IsGivenOn : Option (List Name) → Name → Type 0
IsGivenOn None name = ⊤
IsGivenOn (Some columns) name = Contains columns name

-- after a GRANT each role that belongs to one of its roles is granted SELECT on what the statement names
abbrev pub Given : Type 0
Given = (cat new : Catalog) (actor r role name : Name) (grant : ast.Grant) (t : Table) → changed cat actor (GrantSelect grant) ≡ Ok new → table_named grant.table new ≡ Some t
    → Contains grant.roles role → IsTrue (includes_role new r role) → IsGivenOn grant.columns name → IsTrue (granted new r (select_on t name))

-- ---- REVOKE

-- the parts of which a grant is taken: all, where the statement names no columns, else those columns
abbrev pub TakesPart : Option (List Name) → Option Name → Type 0
TakesPart None part = ⊤
TakesPart (Some columns) None = ⊥
TakesPart (Some columns) (Some column) = Contains columns column

-- the statement takes the grant: one to one of its roles, on one of these parts
abbrev pub Takes : ast.Grant → Grant → Type 0
Takes grant g = Contains grant.roles g.to × TakesPart grant.columns g.column

-- after a REVOKE a grant is on the table exactly where it was before, and the statement does not take it
abbrev pub GrantsAfterRevoke : Type 0
GrantsAfterRevoke = (cat new : Catalog) (actor : Name) (grant : ast.Grant) → changed cat actor (RevokeSelect grant) ≡ Ok new
    → ((g : Grant) → Contains (grants_on new grant.table) g ↔ (Contains (grants_on cat grant.table) g × ¬ (Takes grant g))) × KeepsOthers cat new grant.table

-- a REVOKE leaves what a role is granted by a name that the statement does not name
abbrev pub Kept : Type 0
Kept = (cat new : Catalog) (actor r : Name) (grant : ast.Grant) (t s : Table) (g : Grant) (column : Option Name) → changed cat actor (RevokeSelect grant) ≡ Ok new
    → table_named grant.table cat ≡ Some t → table_named grant.table new ≡ Some s → Contains t.grants g → ¬ (Contains grant.roles g.to)
    → IsTrue (includes_role cat r g.to) → IsTrue (covers g.column column) → IsTrue (granted new r record { table = s; column = column })
