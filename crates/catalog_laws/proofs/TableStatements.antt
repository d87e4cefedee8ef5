-- A table stays well formed after each statement on it.
use Rattle.std.proofs.Common.{◌≡◌, ℕ, ◌<◌, ◌≤◌, nat_eq, Bool, true, false, List, [], ◌∷◌, ◌++◌, length, map, filter, Option, Some, None, option_map, is_some, IfSome, Ok, bytes_eq, ⊎_elim, not, refl, sym, ap, ◌∙◌, subst}
use Rattle.std.proofs.lemmas.Cmp.{nat_eq_equiv}
use Rattle.std.proofs.lemmas.List.{map-append}
use Rattle.std.proofs.lemmas.List.Elements.{All-contains, All-filter, All-nil, All-push}
use Rattle.std.proofs.lemmas.Map.Keys.{IsDistinct-push}
use Rattle.std.specs.List.{All, IsDistinct, list_all, list_any}
use Rattle.row_ast.specs.Ast as ast
use Rattle.row_ast.specs.declared.statement.RowSecurity.{RowSecurity}
use Rattle.row_ast.specs.declared.statement.RowSecurity.TheVariants.{Enable, Disable, Force, NoForce}
use Rattle.value.specs.Columns.{Column}
use Rattle.value.specs.Names.{Name}
use Rattle.expr.specs.Bound.{BoundExpr}
use Rattle.expr.specs.Movable.{movable}
use Rattle.row_objects.specs.ColumnNames.{are_columns, column_index, column_named, has_name_twice}
use Rattle.row_objects.specs.Grants.{Grant, grants_to_all, is_revoked, same_grant}
use Rattle.row_objects.specs.Indexes.{is_indexed}
use Rattle.row_objects.specs.Objects.{Index, Policy, Table}
use Rattle.row_objects.specs.Policies.{has_policy, new_policy}
use Rattle.row_objects.specs.TableChanges.{with_grants_to, with_index, with_last, with_owner, with_row_security, without_grants_to, without_policy_named}
use Rattle.row_objects.specs.TableDefs.{new_table}
use Rattle.catalog.specs.Catalog.{Catalog, is_known, is_role}
use Rattle.catalog.specs.CreatePolicy.{with_bound, with_policy}
use Rattle.catalog.specs.CreateTable.{most_columns}
use Rattle.catalog.specs.PolicyPredicate.{bound_predicate}
use Rattle.catalog_laws.specs.GrantLaws.{Gives, GivesPart}
use Rattle.catalog_laws.specs.WellFormed.{AreDistinct, IsWellFormedGrant, IsWellFormedPolicy, IsWellFormedTable}
use Rattle.catalog_laws.proofs.Distinct.{none_distinct, some_distinct, some_left}
use Rattle.catalog_laws.proofs.GrantSets.{given_by, once_with_all, was_or_given}
use Rattle.catalog_laws.proofs.Lists.{all_pass, each}
use Rattle.expr.proofs.Lists.{any_map}
use Rattle.catalog_laws.proofs.Names.{column_names_differ, one_more_name}
use Rattle.catalog_laws.proofs.PolicyColumns.{own_columns, position_within}

-- ---- grants

module _ (cat : Catalog) (cs : List Column) where
  given_column : (names : Option (List Name)) (part : Option Name) → are_columns cs names ≡ true → GivesPart names part → IfSome part (λ name. is_some (column_named name cs) ≡ true)
  given_column names None h gives = tt
  given_column None (Some name) h gives = absurd gives
  given_column (Some names) (Some name) h gives = all_pass (λ name. is_some (column_named name cs)) names h name gives

  module _ (grant : ast.Grant) (on_columns : are_columns cs grant.columns ≡ true) (known : list_all (is_known cat) grant.roles ≡ true) where
    given_well : (g : Grant) → Gives grant g → IsWellFormedGrant cat cs g
    given_well g gives = record { to_known = all_pass (is_known cat) grant.roles known g.to gives.0; on_column = given_column grant.columns g.column on_columns gives.1 }

    pub granted_well : (gs : List Grant) (t : Table) → t.grants ≡ gs → All (IsWellFormedGrant cat cs) gs → All (IsWellFormedGrant cat cs) (with_grants_to grant t).grants
    granted_well gs t is w = each (IsWellFormedGrant cat cs) (with_grants_to grant t).grants (λ g among. ⊎_elim
        (λ a. All-contains (IsWellFormedGrant cat cs) t.grants g (subst (λ gs. All (IsWellFormedGrant cat cs) gs) (sym is) w) a)
        (λ a. given_well g (given_by grant.columns grant.roles g a))
        (was_or_given t.grants (grants_to_all grant.columns grant.roles) g among))

-- ---- the parts of a table

pub one_more_index : (t : Table) (name column : Name) (i : ℕ) → column_index t.columns column ≡ Some i → (with_index name column t).indexes ≡ t.indexes ++ record { name = name; column = i } ∷ []
one_more_index t name column i at = ap (λ o. with_last t.indexes (option_map (λ i. record { name = name; column = i }) o)) at

module _ (cat : Catalog) (t : Table) (w : IsWellFormedTable cat t) where
  abbrev with_parts : Name → Bool → Bool → List Policy → List Grant → List Index → Table
  with_parts owner row_security forced policies grants indexes =
      record { name = t.name; columns = t.columns; owner = owner; row_security = row_security; forced = forced; policies = policies; grants = grants; indexes = indexes }

  of_parts : (owner : Name) (row_security forced : Bool) (policies : List Policy) (grants : List Grant) (indexes : List Index)
      → is_role cat owner ≡ true → AreDistinct (map (λ p. p.name) policies) → All (IsWellFormedPolicy cat t.columns) policies → All (IsWellFormedGrant cat t.columns) grants → IsDistinct same_grant grants
      → All (λ i. i.column < length t.columns) indexes → IsDistinct nat_eq (map (λ i. i.column) indexes) → IsWellFormedTable cat (with_parts owner row_security forced policies grants indexes)
  of_parts owner row_security forced policies grants indexes its_owner names well given once on_columns one_index = record {
    owner_is_role = its_owner;
    column_names_differ = w.column_names_differ;
    column_limit = w.column_limit;
    policy_names_differ = names;
    policies = well;
    grants = given;
    grants_differ = once;
    indexes_on_columns = on_columns;
    indexed_columns_differ = one_index;
  }

  pub owned : (owner : Name) → is_role cat owner ≡ true → IsWellFormedTable cat (with_owner owner t)
  owned owner h = of_parts owner t.row_security t.forced t.policies t.grants t.indexes h w.policy_names_differ w.policies w.grants w.grants_differ w.indexes_on_columns w.indexed_columns_differ

  secured_as : (row_security forced : Bool) → IsWellFormedTable cat (with_parts t.owner row_security forced t.policies t.grants t.indexes)
  secured_as row_security forced = of_parts t.owner row_security forced t.policies t.grants t.indexes w.owner_is_role w.policy_names_differ w.policies w.grants w.grants_differ w.indexes_on_columns w.indexed_columns_differ

  pub secured : (setting : RowSecurity) → IsWellFormedTable cat (with_row_security setting t)
  secured Enable = secured_as true t.forced
  secured Disable = secured_as false t.forced
  secured Force = secured_as t.row_security true
  secured NoForce = secured_as t.row_security false

  with_its_grants : (grants : List Grant) → All (IsWellFormedGrant cat t.columns) grants → IsDistinct same_grant grants → IsWellFormedTable cat (with_parts t.owner t.row_security t.forced t.policies grants t.indexes)
  with_its_grants grants given once = of_parts t.owner t.row_security t.forced t.policies grants t.indexes w.owner_is_role w.policy_names_differ w.policies given once w.indexes_on_columns w.indexed_columns_differ

  pub granted_to : (grant : ast.Grant) → are_columns t.columns grant.columns ≡ true → list_all (is_known cat) grant.roles ≡ true → IsWellFormedTable cat (with_grants_to grant t)
  granted_to grant on_columns known = with_its_grants (with_grants_to grant t).grants (granted_well cat t.columns grant on_columns known t.grants t refl w.grants) (once_with_all t.grants (grants_to_all grant.columns grant.roles) w.grants_differ)

  pub revoked_from : (grant : ast.Grant) → IsWellFormedTable cat (without_grants_to grant t)
  revoked_from grant =
      let stays : Grant → Bool = λ g. not (is_revoked grant.columns grant.roles g) in
      with_its_grants (without_grants_to grant t).grants (All-filter stays (IsWellFormedGrant cat t.columns) t.grants w.grants) (some_left same_grant stays t.grants w.grants_differ)

  with_its_policies : (policies : List Policy) → AreDistinct (map (λ p. p.name) policies) → All (IsWellFormedPolicy cat t.columns) policies → IsWellFormedTable cat (with_parts t.owner t.row_security t.forced policies t.grants t.indexes)
  with_its_policies policies names well = of_parts t.owner t.row_security t.forced policies t.grants t.indexes w.owner_is_role names well w.grants w.grants_differ w.indexes_on_columns w.indexed_columns_differ

  pub guarded_by : (p : ast.CreatePolicy) (e : BoundExpr) → bound_predicate t p.predicate ≡ Ok e → list_all (is_known cat) p.roles ≡ true → has_policy t.policies p.name ≡ false → movable e ≡ true → IsWellFormedTable cat (with_policy p t)
  guarded_by p e is known new moves =
      let it : Policy = new_policy p e in
      let well : IsWellFormedPolicy cat t.columns it = record { roles_are_known = each (λ name. is_known cat name ≡ true) p.roles (all_pass (is_known cat) p.roles known); never_faults = moves; own_columns = own_columns t p.predicate e is } in
      subst (λ b. IsWellFormedTable cat (with_bound p t b)) (sym is)
      (with_its_policies (t.policies ++ it ∷ []) (one_more_name (λ p. p.name) t.policies it w.policy_names_differ new) (All-push (IsWellFormedPolicy cat t.columns) t.policies it w.policies well))

  pub unguarded : (name : Name) → IsWellFormedTable cat (without_policy_named name t)
  unguarded name =
      let stays : Policy → Bool = λ p. not (bytes_eq name p.name) in
      with_its_policies (filter stays t.policies) (some_distinct bytes_eq (λ p. p.name) stays t.policies w.policy_names_differ) (All-filter stays (IsWellFormedPolicy cat t.columns) t.policies w.policies)

  -- one more index, on a column that has none
  module _ (name column : Name) (i : ℕ) (at : column_index t.columns column ≡ Some i) where
    not_indexed : is_indexed i t.indexes ≡ false → list_any (nat_eq i) (map (λ i. i.column) t.indexes) ≡ false
    not_indexed new = any_map (nat_eq i) (λ i. i.column) t.indexes ∙ turned t.indexes ∙ new
      where
        turned : (indexes : List Index) → list_any (λ x. nat_eq i x.column) indexes ≡ is_indexed i indexes
        turned [] = refl
        turned (x ∷ xs) = rw (nat_eq_equiv.symm i x.column, turned xs) refl

    pub indexed : is_indexed i t.indexes ≡ false → IsWellFormedTable cat (with_index name column t)
    indexed new =
        let it : Index = record { name = name; column = i } in
        let within : i < length t.columns = position_within (λ c. bytes_eq column c.name) t.columns i at in
        let once : IsDistinct nat_eq (map (λ i. i.column) (t.indexes ++ it ∷ [])) = rw map-append (IsDistinct-push nat_eq_equiv (map (λ i. i.column) t.indexes) i w.indexed_columns_differ (not_indexed new)) in
        subst (λ is. IsWellFormedTable cat (with_parts t.owner t.row_security t.forced t.policies t.grants is)) (sym (one_more_index t name column i at))
        (of_parts t.owner t.row_security t.forced t.policies t.grants (t.indexes ++ it ∷ []) w.owner_is_role w.policy_names_differ w.policies w.grants w.grants_differ (All-push (λ i. i.column < length t.columns) t.indexes it w.indexes_on_columns within) once)

-- a new table
pub new_well : (cat : Catalog) (actor name : Name) (columns : List Column) → is_role cat actor ≡ true → has_name_twice columns ≡ false → length columns ≤ most_columns → IsWellFormedTable cat (new_table actor name columns)
new_well cat actor name columns its_owner once few = record {
  owner_is_role = its_owner;
  column_names_differ = column_names_differ columns once;
  column_limit = few;
  policy_names_differ = none_distinct bytes_eq;
  policies = All-nil (IsWellFormedPolicy cat columns);
  grants = All-nil (IsWellFormedGrant cat columns);
  grants_differ = none_distinct same_grant;
  indexes_on_columns = All-nil (λ i. i.column < length columns);
  indexed_columns_differ = none_distinct nat_eq;
}
