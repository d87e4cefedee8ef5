-- The laws of GRANT and REVOKE.
use Rattle.std.proofs.Common.{◌≡◌, Bool, true, ◌&&◌, List, [], Option, Some, None, option_map, bytes_eq, Contains, ◌⊎◌, inl, inr, ⊎_elim, refl, sym, ap, ◌∙◌, subst}
use Rattle.std.proofs.lemmas.Bool.{and_parts, and_from, false_from_ne_true, or_cases, or_left, or_right}
use Rattle.std.specs.List.{list_any}
use Rattle.std.proofs.lemmas.Slice.Eq.{bytes_eq-Decides}
use Rattle.memory.proofs.Cases.{some_is}
use Rattle.value.specs.declared.refusal.Refusal.TheVariants as refusal
use Rattle.row_ast.specs.Ast as ast
use Rattle.value.specs.Names.{Name}
use Rattle.row_ast.specs.Statements.{GrantSelect, RevokeSelect}
use Rattle.row_objects.specs.Grants.{Grant, grants_to_all}
use Rattle.row_objects.specs.Objects.{Table}
use Rattle.row_objects.specs.TableChanges.{with_grants_to, without_grants_to}
use Rattle.catalog.specs.Catalog.{Catalog, owns, table_named}
use Rattle.catalog.specs.Changes.{counted}
use Rattle.catalog.specs.Checks.{if_found, with_table}
use Rattle.catalog.specs.Granted.{grants_on}
use Rattle.access.specs.Access.{covers, includes_role}
use Rattle.catalog_laws.specs.GrantLaws.{AnyPart, ChangeGrantsAlone, Given, Gives, GivesPart, GrantsAfterGrant, GrantsAfterRevoke, IsGivenOn, IsSameButGrants, KeepsOthers, Kept, without_its_grants}
use Rattle.catalog_laws.proofs.Accepted.{accepted, found}
use Rattle.catalog_laws.proofs.Changes.{found_changed, other_unchanged, same_changed}
use Rattle.catalog_laws.proofs.GrantSets.{by_given, given_by, left_was, now_held, still_held, was_left, was_or_given}
use Rattle.catalog_laws.proofs.Lists.{passes_some, some_passes}

-- ---- any part of a table

covers_itself : (part : Option Name) → covers part None ≡ true → (name : Name) × (covers part (Some name) ≡ true)
covers_itself None h = ([], refl)
covers_itself (Some column) h = (column, (bytes_eq-Decides column column).1 refl)

covers_any : (part : Option Name) (name : Name) → covers part (Some name) ≡ true → covers part None ≡ true
covers_any None name h = refl
covers_any (Some column) name h = refl

-- a grant that covers what is required
module _ (cat : Catalog) (r : Name) (t : Table) where
  abbrev gives : Option Name → Grant → Bool
  gives required g = includes_role cat r g.to && covers g.column required

  abbrev by_grants : Option Name → Bool
  by_grants required = list_any (gives required) t.grants

  some_column : by_grants None ≡ true → (name : Name) × (by_grants (Some name) ≡ true)
  some_column h =
      let one = some_passes (gives None) t.grants h in
      let both = and_parts (includes_role cat r one.0.to) (covers one.0.column None) one.2 in
      let its = covers_itself one.0.column both.1 in
      (its.0, passes_some (gives (Some its.0)) t.grants one.0 one.1 (and_from (includes_role cat r one.0.to) (covers one.0.column (Some its.0)) both.0 its.1))

  of_column : (name : Name) → by_grants (Some name) ≡ true → by_grants None ≡ true
  of_column name h =
      let one = some_passes (gives (Some name)) t.grants h in
      let both = and_parts (includes_role cat r one.0.to) (covers one.0.column (Some name)) one.2 in
      passes_some (gives None) t.grants one.0 one.1 (and_from (includes_role cat r one.0.to) (covers one.0.column None) both.0 (covers_any one.0.column name both.1))

pub any_part : AnyPart
any_part cat r t = (
  λ h. ⊎_elim (λ a. ([], or_left (owns cat r t) _ a)) (λ b. let one = some_column cat r t b in (one.0, or_right (owns cat r t) _ one.1)) (or_cases (owns cat r t) (by_grants cat r t None) h),
  λ h. ⊎_elim (λ a. or_left (owns cat r t) _ a) (λ b. or_right (owns cat r t) _ (of_column cat r t h.0 b)) (or_cases (owns cat r t) (by_grants cat r t (Some h.0)) h.1),
)

-- ---- one table changed

module _ (cat : Catalog) (table : Name) (f : Table → Table) (named : (t : Table) → (f t).name ≡ t.name) where
  its_table : (t : Table) → table_named table cat ≡ Some t → table_named table (counted cat (with_table cat table f)) ≡ Some (f t)
  its_table t there = found_changed (λ t. bytes_eq table t.name) f (λ t. ap (bytes_eq table) (named t)) cat.tables ∙ ap (option_map f) there

  others_kept : KeepsOthers cat (counted cat (with_table cat table f)) table
  others_kept name other = other_unchanged (λ t. bytes_eq table t.name) (λ t. bytes_eq name t.name) f (λ t. ap (bytes_eq name) (named t))
      (λ t is. false_from_ne_true _ (λ same. other ((bytes_eq-Decides name t.name).0 same ∙ sym ((bytes_eq-Decides table t.name).0 is)))) cat.tables

  grants_changed : (t : Table) → table_named table cat ≡ Some t → grants_on (counted cat (with_table cat table f)) table ≡ (f t).grants
  grants_changed t there = ap (if_found [] (λ t. t.grants)) (its_table t there)

grants_were : (cat : Catalog) (table : Name) (t : Table) → table_named table cat ≡ Some t → grants_on cat table ≡ t.grants
grants_were cat table t there = ap (if_found [] (λ t. t.grants)) there

grants_alone_in : (cat : Catalog) (table : Name) (f : Table → Table) → ((t : Table) → without_its_grants (f t) ≡ without_its_grants t) → IsSameButGrants cat (counted cat (with_table cat table f))
grants_alone_in cat table f same = record { roles = refl; memberships = refl; tables = same_changed (λ t. bytes_eq table t.name) without_its_grants f same cat.tables }

pub grants_alone : ChangeGrantsAlone
grants_alone cat new actor grant (inl e) = subst (λ (c : Catalog). IsSameButGrants cat c) (sym (accepted cat new actor (GrantSelect grant) e).is) (grants_alone_in cat grant.table (with_grants_to grant) (λ t. refl))
grants_alone cat new actor grant (inr e) = subst (λ (c : Catalog). IsSameButGrants cat c) (sym (accepted cat new actor (RevokeSelect grant) e).is) (grants_alone_in cat grant.table (without_grants_to grant) (λ t. refl))

-- ---- GRANT

module _ (grant : ast.Grant) (t : Table) (g : Grant) where
  after_grant : Contains (with_grants_to grant t).grants g → Contains t.grants g ⊎ Gives grant g
  after_grant h = ⊎_elim (λ a. inl a) (λ a. inr (given_by grant.columns grant.roles g a)) (was_or_given t.grants (grants_to_all grant.columns grant.roles) g h)

  by_grant : Contains t.grants g ⊎ Gives grant g → Contains (with_grants_to grant t).grants g
  by_grant (inl a) = still_held t.grants (grants_to_all grant.columns grant.roles) g a
  by_grant (inr a) = now_held t.grants (grants_to_all grant.columns grant.roles) g (by_given grant.columns grant.roles g.to g.column a.0 a.1)

pub grants_after_grant : GrantsAfterGrant
grants_after_grant cat new actor grant e =
    let it = accepted cat new actor (GrantSelect grant) e in
    let t = found refusal.UndefinedTable _ (table_named grant.table cat) it.passed in
    let before = grants_were cat grant.table t.0 t.1 in
    let now = ap (λ (c : Catalog). grants_on c grant.table) it.is ∙ grants_changed cat grant.table (with_grants_to grant) (λ t. refl) t.0 t.1 in (
      λ g. rw (now, before) (after_grant grant t.0 g, by_grant grant t.0 g),
      subst (λ (c : Catalog). KeepsOthers cat c grant.table) (sym it.is) (others_kept cat grant.table (with_grants_to grant) (λ t. refl)),
    )

part_given : (columns : Option (List Name)) (name : Name) → IsGivenOn columns name → (part : Option Name) × GivesPart columns part × (covers part (Some name) ≡ true)
part_given None name h = (None, tt, refl)
part_given (Some columns) name h = (Some name, h, (bytes_eq-Decides name name).1 refl)

pub given : Given
given cat new actor r role name grant t e there among includes on =
    let it = accepted cat new actor (GrantSelect grant) e in
    let old = found refusal.UndefinedTable _ (table_named grant.table cat) it.passed in
    let now = ap (table_named grant.table) it.is ∙ its_table cat grant.table (with_grants_to grant) (λ t. refl) old.0 old.1 in
    let same = some_is (with_grants_to grant old.0) t (sym now ∙ there) in
    let part = part_given grant.columns name on in
    let g : Grant = record { to = role; column = part.0 } in
    let held = by_grant grant old.0 g (inr (among, part.1)) in
    or_right (owns new r t) _ (passes_some (gives new r t (Some name)) t.grants g (subst (λ (t : Table). Contains t.grants g) same held) (and_from (includes_role new r role) (covers part.0 (Some name)) includes part.2))

-- ---- REVOKE

pub grants_after_revoke : GrantsAfterRevoke
grants_after_revoke cat new actor grant e =
    let it = accepted cat new actor (RevokeSelect grant) e in
    let t = found refusal.UndefinedTable _ (table_named grant.table cat) it.passed in
    let before = grants_were cat grant.table t.0 t.1 in
    let now = ap (λ (c : Catalog). grants_on c grant.table) it.is ∙ grants_changed cat grant.table (without_grants_to grant) (λ t. refl) t.0 t.1 in (
      λ g. rw (now, before) (left_was grant g t.0.grants, λ h. was_left grant g t.0.grants h.0 h.1),
      subst (λ (c : Catalog). KeepsOthers cat c grant.table) (sym it.is) (others_kept cat grant.table (without_grants_to grant) (λ t. refl)),
    )

pub kept : Kept
kept cat new actor r grant t s g column e there found_now held free includes covered =
    let it = accepted cat new actor (RevokeSelect grant) e in
    let now = ap (table_named grant.table) it.is ∙ its_table cat grant.table (without_grants_to grant) (λ t. refl) t there in
    let same = some_is (without_grants_to grant t) s (sym now ∙ found_now) in
    let still = was_left grant g t.grants held (λ taken. free taken.0) in
    let includes_now = subst (λ (c : Catalog). includes_role c r g.to ≡ true) (sym it.is) includes in
    or_right (owns new r s) _ (passes_some (gives new r s column) s.grants g (subst (λ (t : Table). Contains t.grants g) same still) (and_from (includes_role new r g.to) (covers g.column column) includes_now covered))
