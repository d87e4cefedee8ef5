-- What is well formed stays so where no role is lost.
use Rattle.std.proofs.Common.{◌≡◌, true, List, ⊎_elim, bytes_eq}
use Rattle.std.proofs.lemmas.Bool.{or_cases, or_left, or_right}
use Rattle.std.proofs.lemmas.List.Elements.{All-weaker}
use Rattle.value.specs.Columns.{Column}
use Rattle.value.specs.Names.{Name, everyone}
use Rattle.row_objects.specs.Grants.{Grant}
use Rattle.row_objects.specs.Objects.{Policy, Table}
use Rattle.catalog.specs.Catalog.{Catalog, is_known, is_role}
use Rattle.catalog_laws.specs.WellFormed.{IsWellFormedGrant, IsWellFormedPolicy, IsWellFormedTable}

module _ (cat new : Catalog) (keeps : (name : Name) → is_role cat name ≡ true → is_role new name ≡ true) where
  known_still : (name : Name) → is_known cat name ≡ true → is_known new name ≡ true
  known_still name h = ⊎_elim (λ a. or_left (bytes_eq name everyone) _ a) (λ a. or_right (bytes_eq name everyone) _ (keeps name a)) (or_cases (bytes_eq name everyone) (is_role cat name) h)

  grant_still : (cs : List Column) (g : Grant) → IsWellFormedGrant cat cs g → IsWellFormedGrant new cs g
  grant_still cs g w = record { to_known = known_still g.to w.to_known; on_column = w.on_column }

  policy_still : (cs : List Column) (p : Policy) → IsWellFormedPolicy cat cs p → IsWellFormedPolicy new cs p
  policy_still cs p w = record { roles_are_known = All-weaker _ _ known_still p.roles w.roles_are_known; never_faults = w.never_faults; own_columns = w.own_columns }

  pub table_still : (t : Table) → IsWellFormedTable cat t → IsWellFormedTable new t
  table_still t w = record {
    owner_is_role = keeps t.owner w.owner_is_role;
    column_names_differ = w.column_names_differ;
    column_limit = w.column_limit;
    policy_names_differ = w.policy_names_differ;
    policies = All-weaker _ _ (policy_still t.columns) t.policies w.policies;
    grants = All-weaker _ _ (grant_still t.columns) t.grants w.grants;
    grants_differ = w.grants_differ;
    indexes_on_columns = w.indexes_on_columns;
    indexed_columns_differ = w.indexed_columns_differ;
  }
