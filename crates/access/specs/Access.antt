-- The privileges on tables and the rows that a role sees (PostgreSQL: Privileges; Row Security Policies).
use Rattle.std.specs.Prelude.{Bool, true, not, ◌&&◌, ◌||◌, List, filter, Option, Some, None}
use Rattle.std.specs.Str.{bytes_eq}
use Rattle.std.specs.List.{list_all, list_any, find}
use Rattle.value.specs.Datum.{Row}
use Rattle.value.specs.Names.{Name, everyone}
use Rattle.row_objects.specs.Objects.{Policy, Table}
use Rattle.eval.specs.Meaning.{holds}
use Rattle.catalog.specs.Catalog.{Catalog, belongs, bypasses_rls, is_superuser, owns}
use Rattle.tuples.specs.Rows.{cells_of}

-- the name is r's, that of a role that r belongs to, or that of every role
abbrev pub includes_role : Catalog → Name → Name → Bool
includes_role cat r name = bytes_eq name everyone || belongs cat r name

-- ---- privileges

-- SELECT on a column of a table, or on any part of it
pub record RequiredPrivilege : Type 0 where
  pub table : Table
  pub column : Option Name

abbrev pub select_on : Table → Name → RequiredPrivilege
select_on t name = record { table = t; column = Some name }

-- a grant on the whole table covers all of it, a grant on a column that column and any part
abbrev pub covers : Option Name → Option Name → Bool
covers None required = true
covers (Some column) None = true
covers (Some column) (Some name) = bytes_eq column name

-- the role owns the table, or a grant to it covers the required privilege
abbrev pub granted : Catalog → Name → RequiredPrivilege → Bool
granted cat r required =
    owns cat r required.table || list_any (λ g. includes_role cat r g.to && covers g.column required.column) required.table.grants

-- the first required privilege that is not granted
abbrev pub denial : Catalog → Name → List RequiredPrivilege → Option RequiredPrivilege
denial cat r required = find (λ privilege. not (granted cat r privilege)) required

-- ---- rows

-- the policy applies to the role
abbrev pub applies : Catalog → Name → Policy → Bool
applies cat r p = list_any (includes_role cat r) p.roles

-- it is a permissive policy that applies to the role
abbrev pub permits : Catalog → Name → Policy → Bool
permits cat r p = not p.restrictive && applies cat r p

-- it is a restrictive policy that applies to the role
abbrev pub restricts : Catalog → Name → Policy → Bool
restricts cat r p = p.restrictive && applies cat r p

-- the predicate of the policy is true on the row; false and null are not
abbrev pub is_true_of : Name → Row → Policy → Bool
is_true_of r row p = holds (cells_of row) r p.predicate

-- some applicable permissive policy is true on the row, and every applicable restrictive one is
abbrev pub policies_allow : Catalog → Name → Table → Row → Bool
policies_allow cat r t row =
    list_any (is_true_of r row) (filter (permits cat r) t.policies) && list_all (is_true_of r row) (filter (restricts cat r) t.policies)

-- row security is off, or the role is a superuser or has BYPASSRLS, or it belongs to the owner on whom row security is not forced
abbrev pub bypasses_policies : Catalog → Name → Table → Bool
bypasses_policies cat r t = not t.row_security || is_superuser cat r || bypasses_rls cat r || (belongs cat r t.owner && not t.forced)

-- the role bypasses the policies of the table, or they allow it the row
abbrev pub sees : Catalog → Name → Table → Row → Bool
sees cat r t row = bypasses_policies cat r t || policies_allow cat r t row

-- the rows of the table that the role sees
abbrev pub visible : Catalog → Name → Table → List Row → List Row
visible cat r t rows = filter (sees cat r t) rows
