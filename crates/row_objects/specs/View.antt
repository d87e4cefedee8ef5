-- The views of the Rust types of a catalogue's objects as spec data.
use Rattle.std.specs.Prelude.{List, map}
use Rattle.value.specs.Columns.{column_of}
use Rattle.value.specs.Names.{Name}
use Rattle.row_objects.specs.declared.objects.Role as declared
use Rattle.row_objects.specs.declared.objects.Policy as declared_policy
use Rattle.row_objects.specs.declared.objects.Index as declared_index
use Rattle.row_objects.specs.declared.objects.TableDef.{TableDef}
use Rattle.row_objects.specs.declared.objects.Table as declared_table
use Rattle.row_objects.specs.Objects.{Role, Policy, Index, Table}
use Rattle.row_objects.specs.declared.grants.Grant as declared_grant
use Rattle.row_objects.specs.Grants.{Grant}

abbrev pub grant_of : {A : Type 0} → declared_grant.Grant A → Grant
grant_of g = record { to = g.to; column = g.column }

abbrev pub grants_of : {A : Type 0} → List (declared_grant.Grant A) → List Grant
grants_of grants = map (λ g. grant_of g) grants

-- a role by its name
abbrev pub role_of : Name × declared.Role → Role
role_of r = record { name = r.0; superuser = r.1.superuser; bypass_rls = r.1.bypass_rls }

abbrev pub policy_of : {A : Type 0} → declared_policy.Policy A → Policy
policy_of p = record { name = p.name; restrictive = p.restrictive; roles = p.roles; predicate = p.predicate }

abbrev pub policies_of : {A : Type 0} → List (declared_policy.Policy A) → List Policy
policies_of policies = map (λ p. policy_of p) policies

abbrev pub index_of : {A : Type 0} → declared_index.Index A → Index
index_of i = record { name = i.name; column = i.column }

-- a table by its name
abbrev pub table_entry : {A : Type 0} → Name × TableDef A → Table
table_entry t = record {
  name = t.0;
  columns = map column_of t.1.columns;
  owner = t.1.owner;
  row_security = t.1.row_security;
  forced = t.1.forced;
  policies = map policy_of t.1.policies;
  grants = map grant_of t.1.grants;
  indexes = map index_of t.1.indexes;
}

-- a table that is lent
abbrev pub table_of : {A : Type 0} → declared_table.Table A → Table
table_of t = table_entry (t.name.now, t.parts.now)
