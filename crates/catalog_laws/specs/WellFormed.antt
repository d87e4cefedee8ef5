-- Well-formed catalogues.
use Rattle.std.specs.Prelude.{◌≡◌, ◌≤◌, ◌<◌, nat_eq, Bool, false, codes, List, ◌++◌, length, map, flat_map, All, Contains, IfSome, is_some, Ok, IsTrue}
use Rattle.std.specs.List.{IsDistinct}
use Rattle.std.specs.Str.{bytes_eq}
use Rattle.value.specs.Columns.{Column}
use Rattle.value.specs.Datum.{Row}
use Rattle.value.specs.Names.{Name, everyone}
use Rattle.row_ast.specs.Statements.{Statement}
use Rattle.expr.specs.Columns.{columns}
use Rattle.expr.specs.Movable.{movable}
use Rattle.expr.specs.declared.bound.ColumnId.{ColumnId}
use Rattle.row_objects.specs.Memberships.{HasNoLoop, Membership, is_membership, most_roles}
use Rattle.row_objects.specs.ColumnNames.{column_named}
use Rattle.row_objects.specs.Grants.{Grant, same_grant}
use Rattle.row_objects.specs.Objects.{Policy, Table, most_policies}
use Rattle.row_objects.specs.Policies.{policy_count}
use Rattle.catalog.specs.Catalog.{Catalog, at_first, is_known, is_role, is_superuser}
use Rattle.catalog.specs.Changes.{changed, most_changes}
use Rattle.catalog.specs.CreateTable.{most_columns, most_tables}
use Rattle.catalog.specs.Run.{run}
use Rattle.tuples.specs.Guards.{shows}
use Rattle.access.specs.Access.{sees}
use Rattle.access.specs.Guards.{guard}

-- no two of the names are the same
abbrev pub AreDistinct : List Name → Type 0
AreDistinct names = IsDistinct bytes_eq names

-- ---- one table

-- to a role or to all, and on the whole table or on one of its columns
pub record IsWellFormedGrant (cat : Catalog) (its_columns : List Column) (g : Grant) : Type 0 where
  pub to_known : IsTrue (is_known cat g.to)
  pub on_column : IfSome g.column (λ name. IsTrue (is_some (column_named name its_columns)))

-- a column of the table, which is the one entry that the condition of a policy has in scope
pub record IsOwnColumn (its_columns : List Column) (id : ColumnId) : Type 0 where
  pub entry : id.entry ≡ 0
  pub within : id.column < length its_columns

-- for roles or for all, with a condition over columns of the table that never faults
pub record IsWellFormedPolicy (cat : Catalog) (its_columns : List Column) (p : Policy) : Type 0 where
  pub roles_are_known : All (λ name. IsTrue (is_known cat name)) p.roles
  pub never_faults : IsTrue (movable p.predicate)
  pub own_columns : All (IsOwnColumn its_columns) (columns p.predicate)

pub record IsWellFormedTable (cat : Catalog) (t : Table) : Type 0 where
  pub owner_is_role : IsTrue (is_role cat t.owner)
  pub column_names_differ : AreDistinct (map (λ column. column.name) t.columns)
  pub column_limit : length t.columns ≤ most_columns
  pub policy_names_differ : AreDistinct (map (λ p. p.name) t.policies)
  pub policies : All (IsWellFormedPolicy cat t.columns) t.policies
  pub grants_differ : IsDistinct same_grant t.grants
  pub grants : All (IsWellFormedGrant cat t.columns) t.grants
  -- no column has two indexes
  pub indexed_columns_differ : IsDistinct nat_eq (map (λ i. i.column) t.indexes)
  pub indexes_on_columns : All (λ i. i.column < length t.columns) t.indexes

-- ---- the catalogue

-- of the same member and group
abbrev pub same_membership : Membership → Membership → Bool
same_membership a b = is_membership b.group b.member a

-- the names of the tables, and of the indexes of all tables
abbrev pub table_names : Catalog → List Name
table_names cat = map (λ t. t.name) cat.tables

abbrev pub index_names : Catalog → List Name
index_names cat = flat_map (λ t. map (λ i. i.name) t.indexes) cat.tables

pub record IsWellFormed (cat : Catalog) : Type 0 where
  pub role_names_differ : AreDistinct (map (λ role. role.name) cat.roles)
  -- the name that stands for every role is no role's
  pub everyone_is_no_role : is_role cat everyone ≡ false
  pub root_is_superuser : IsTrue (is_superuser cat (codes "root"))
  pub role_limit : length cat.roles ≤ most_roles
  pub memberships_differ : IsDistinct same_membership cat.memberships
  pub members_are_roles : All (λ m. IsTrue (is_role cat m.member)) cat.memberships
  pub groups_are_roles : All (λ m. IsTrue (is_role cat m.group)) cat.memberships
  pub no_loop : HasNoLoop cat.memberships
  -- no two tables or indexes have one name
  pub relation_names_differ : AreDistinct (table_names cat ++ index_names cat)
  pub table_limit : length cat.tables ≤ most_tables
  pub policy_limit : policy_count cat.tables ≤ most_policies
  pub tables : All (IsWellFormedTable cat) cat.tables
  pub change_limit : cat.change_number ≤ most_changes

-- ---- the laws

-- a statement that is not refused keeps it
abbrev pub KeepsWellFormed : Type 0
KeepsWellFormed = (cat new : Catalog) (actor : Name) (statement : Statement) → IsWellFormed cat → changed cat actor statement ≡ Ok new → IsWellFormed new

-- so is each catalogue that statements make
abbrev pub RunsAreWellFormed : Type 0
RunsAreWellFormed = (statements : List (Name × Statement)) → IsWellFormed (run statements at_first)

-- the guard of a role on a table is true exactly on the rows that the role sees
abbrev pub GuardsShow : Type 0
GuardsShow = (cat : Catalog) (r : Name) (t : Table) (row : Row) → IsWellFormed cat → Contains cat.tables t → shows r (guard cat r t) row ≡ sees cat r t row
