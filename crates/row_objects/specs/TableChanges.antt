-- The changes of a table by schema statements.
use Rattle.std.specs.Prelude.{ℕ, zero, suc, true, false, List, [], ◌∷◌, ◌++◌, Option, Some, None}
use Rattle.row_ast.specs.Ast as ast
use Rattle.value.specs.Names.{Name}
use Rattle.row_ast.specs.declared.statement.RowSecurity.{RowSecurity}
use Rattle.row_ast.specs.declared.statement.RowSecurity.TheVariants.{Enable, Disable, Force, NoForce}
use Rattle.row_objects.specs.Grants.{grants_to_all, with_grants, without_grants}
use Rattle.row_objects.specs.Indexes.{new_index}
use Rattle.row_objects.specs.Objects.{Policy, Table}
use Rattle.row_objects.specs.Policies.{without_policy}

-- the one at an index, changed
abbrev pub changed_at : {E : Type 0} → ℕ → (E → E) → List E → List E
changed_at i f [] = []
changed_at zero f (e ∷ es) = f e ∷ es
changed_at (suc i) f (e ∷ es) = e ∷ changed_at i f es

abbrev pub with_owner : Name → Table → Table
with_owner owner t = record t { owner = owner }

abbrev pub with_row_security : RowSecurity → Table → Table
with_row_security Enable t = record t { row_security = true }
with_row_security Disable t = record t { row_security = false }
with_row_security Force t = record t { forced = true }
with_row_security NoForce t = record t { forced = false }

abbrev pub with_grants_to : ast.Grant → Table → Table
with_grants_to grant t = record t { grants = with_grants t.grants (grants_to_all grant.columns grant.roles) }

abbrev pub without_grants_to : ast.Grant → Table → Table
without_grants_to grant t = record t { grants = without_grants grant.columns grant.roles t.grants }

-- one more policy at the end
abbrev pub with_new_policy : Policy → Table → Table
with_new_policy p t = record t { policies = t.policies ++ p ∷ [] }

abbrev pub without_policy_named : Name → Table → Table
without_policy_named name t = record t { policies = without_policy name t.policies }

-- with one more at the end, if it is there
abbrev pub with_last : {X : Type 0} → List X → Option X → List X
with_last xs None = xs
with_last xs (Some x) = xs ++ x ∷ []

abbrev pub with_index : Name → Name → Table → Table
with_index name column t = record t { indexes = with_last t.indexes (new_index name column t.columns) }
