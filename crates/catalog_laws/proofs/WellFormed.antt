-- Statements keep a catalogue well formed.
use Rattle.std.proofs.Common.{◌≡◌, ℕ, ◌+◌, ◌<◌, ◌≤◌, nat_lt, Bool, true, false, not, ◌||◌, cond, codes, List, [], ◌∷◌, ◌++◌, length, length-append, map, find, filter, Option, Some, None, Result, Ok, Err, bytes_eq, refl, sym, ap, ◌∙◌, subst, arith, append_assoc, append-nil}
use Rattle.std.proofs.lemmas.Bool.{and_from, and_parts, leb-false, ltb-false, ltb-true, not-false, false≢true, true≢false, or_from, or_left, or_parts}
use Rattle.std.proofs.lemmas.Grind.{flat_map-append}
use Rattle.std.proofs.lemmas.List.{map-append}
use Rattle.std.proofs.lemmas.List.Elements.{All-contains, All-filter, All-head, All-nil, All-push, All-tail, All-weaker}
use Rattle.std.proofs.lemmas.List.Folds.{find-append, list_any-append}
use Rattle.std.proofs.lemmas.List.Sums.{count_by-le-length, length-filter}
use Rattle.std.proofs.lemmas.Cmp.{nat_list_eq_equiv}
use Rattle.std.specs.List.{All, IsDistinct, flat_map, list_all, list_any}
use Rattle.std.specs.Option.{option_or}
use Rattle.memory.proofs.Cases.{some_is}
use Rattle.value.specs.declared.refusal.Refusal.{Refusal}
use Rattle.value.specs.declared.refusal.Refusal.TheVariants as r
use Rattle.value.specs.Columns.{Column}
use Rattle.value.specs.Names.{Name, everyone}
use Rattle.row_ast.specs.Ast as ast
use Rattle.row_ast.specs.Statements.{Statement, CreateRole, GrantRole, RevokeRole, CreateTable, SetOwner, SetRowSecurity, CreateIndex, GrantSelect, RevokeSelect, CreatePolicy, DropPolicy}
use Rattle.row_ast.specs.declared.statement.RowSecurity.{RowSecurity}
use Rattle.row_ast.specs.declared.statement.RowSecurity.TheVariants.{Enable, Disable, Force, NoForce}
use Rattle.row_objects.specs.Memberships.{HasNoLoop, Membership, is_membership, most_roles}
use Rattle.row_objects.proofs.Loops.{none_after, none_among, none_at_first}
use Rattle.expr.specs.Bound.{BoundExpr}
use Rattle.expr.specs.Movable.{movable}
use Rattle.scope.specs.declared.error.BindError.{BindError}
use Rattle.row_objects.specs.ColumnNames.{are_columns, column_index}
use Rattle.row_objects.specs.Indexes.{is_indexed}
use Rattle.row_objects.specs.Objects.{Policy, Role, Table, most_policies}
use Rattle.row_objects.specs.Policies.{has_policy, has_policy_room, new_policy, policy_count}
use Rattle.row_objects.specs.TableChanges.{with_grants_to, with_index, with_owner, with_row_security, without_grants_to, without_policy_named}
use Rattle.row_objects.specs.TableDefs.{new_table}
use Rattle.catalog.specs.Catalog.{Catalog, at_first, belongs, has_superuser, is_index, is_known, is_role, is_superuser, is_table, role_named, table_named}
use Rattle.catalog.specs.Changes.{after, changed, checks, counted, most_changes}
use Rattle.catalog.specs.Checks.{first_changed, is_full, with_table}
use Rattle.catalog.specs.CreateIndex.{checks_create_index, checks_new_index}
use Rattle.catalog.specs.CreatePolicy.{checks_create_policy, with_bound, with_policy}
use Rattle.catalog.specs.CreateRole.{checks_create_role}
use Rattle.catalog.specs.CreateTable.{checks_create_table, most_columns, most_tables}
use Rattle.catalog.specs.GrantRole.{checks_grant_role}
use Rattle.catalog.specs.GrantSelect.{checks_select}
use Rattle.catalog.specs.PolicyPredicate.{bound_predicate, checks_bound, predicate_fault}
use Rattle.catalog.specs.Run.{or_same, run}
use Rattle.catalog.specs.SetOwner.{checks_set_owner}
use Rattle.access.proofs.Decided.{guard_shows}
use Rattle.catalog_laws.specs.WellFormed.{AreDistinct, IsWellFormed, IsWellFormedPolicy, IsWellFormedTable, GuardsShow, KeepsWellFormed, RunsAreWellFormed, index_names, same_membership, table_names}
use Rattle.catalog_laws.proofs.Accepted.{Passed, accepted, found}
use Rattle.catalog_laws.proofs.Changes.{all_changed, as_many, between, same_changed, same_each}
use Rattle.catalog_laws.proofs.Distinct.{none_distinct, some_left, with_head, with_last}
use Rattle.catalog_laws.proofs.Known.{table_still}
use Rattle.catalog_laws.proofs.Lists.{was_among}
use Rattle.catalog_laws.proofs.Names.{found_any, its_index_names, new_relation, one_between, one_more_name}
use Rattle.catalog_laws.proofs.TableStatements.{granted_to, guarded_by, indexed, new_well, one_more_index, owned, revoked_from, secured, unguarded}

-- ---- roles

module _ (cat : Catalog) (w : IsWellFormed cat) (room : cat.change_number < most_changes) where
  module _ (name : Name) (superuser bypass_rls : Bool) where
    abbrev role : Role
    role = record { name = name; superuser = superuser; bypass_rls = bypass_rls }

    abbrev with_role : Catalog
    with_role = counted cat (record cat { roles = cat.roles ++ role ∷ [] })

    is_role_now : (n : Name) → is_role with_role n ≡ (is_role cat n || bytes_eq n name)
    is_role_now n =
        found_any (λ role. bytes_eq n role.name) (cat.roles ++ role ∷ [])
        ∙ list_any-append (λ role. bytes_eq n role.name) cat.roles (role ∷ [])
        ∙ ap (λ b. b || (bytes_eq n name || false)) (sym (found_any (λ role. bytes_eq n role.name) cat.roles))
        ∙ ap (λ b. is_role cat n || b) (at_end (bytes_eq n name))
      where
        at_end : (b : Bool) → (b || false) ≡ b
        at_end true = refl
        at_end false = refl

    still_role : (n : Name) → is_role cat n ≡ true → is_role with_role n ≡ true
    still_role n h = is_role_now n ∙ or_left (is_role cat n) (bytes_eq n name) h

    still_superuser : (n : Name) → is_superuser cat n ≡ true → is_superuser with_role n ≡ true
    still_superuser n h = ap has_superuser (find-append (λ role. bytes_eq n role.name) cat.roles (role ∷ [])) ∙ go (role_named n cat) h
      where
        go : (o : Option Role) → has_superuser o ≡ true → has_superuser (option_or o (find (λ role. bytes_eq n role.name) (role ∷ []))) ≡ true
        go None h = absurd (false≢true h)
        go (Some one) h = h

    created : is_known cat name ≡ false → length cat.roles < most_roles → IsWellFormed with_role
    created unknown few =
        let both = or_parts (bytes_eq name everyone) (is_role cat name) unknown in
        record {
          role_names_differ = one_more_name (λ role. role.name) cat.roles role w.role_names_differ (sym (found_any (λ role. bytes_eq name role.name) cat.roles) ∙ both.1);
          everyone_is_no_role = is_role_now everyone ∙ or_from (is_role cat everyone) (bytes_eq everyone name) w.everyone_is_no_role (nat_list_eq_equiv.symm everyone name ∙ both.0);
          role_limit = omega (arith, few, length-append cat.roles (role ∷ []));
          root_is_superuser = still_superuser (codes "root") w.root_is_superuser;
          members_are_roles = All-weaker _ _ (λ m. still_role m.member) cat.memberships w.members_are_roles;
          groups_are_roles = All-weaker _ _ (λ m. still_role m.group) cat.memberships w.groups_are_roles;
          memberships_differ = w.memberships_differ;
          no_loop = w.no_loop;
          relation_names_differ = w.relation_names_differ;
          table_limit = w.table_limit;
          policy_limit = w.policy_limit;
          tables = All-weaker _ _ (table_still cat with_role still_role) cat.tables w.tables;
          change_limit = omega (arith, room);
        }

    pub role_created : (actor : Name) → Passed (checks_create_role cat actor name) → IsWellFormed with_role
    role_created actor h = created h.1.0 (leb-false most_roles (length cat.roles) h.1.1.0)

  -- ---- memberships

  turned : (a b : Membership) → same_membership a b ≡ same_membership b a
  turned a b = rw (nat_list_eq_equiv.symm a.group b.group, nat_list_eq_equiv.symm a.member b.member) refl

  module _ (ms : List Membership) where
    abbrev with_these : Catalog
    with_these = counted cat (record cat { memberships = ms })

    with_memberships : All (λ m. is_role cat m.member ≡ true) ms → All (λ m. is_role cat m.group ≡ true) ms → IsDistinct same_membership ms → HasNoLoop ms → IsWellFormed with_these
    with_memberships its_members its_groups once free = record {
      role_names_differ = w.role_names_differ;
      everyone_is_no_role = w.everyone_is_no_role;
      role_limit = w.role_limit;
      root_is_superuser = w.root_is_superuser;
      members_are_roles = its_members;
      groups_are_roles = its_groups;
      memberships_differ = once;
      no_loop = free;
      relation_names_differ = w.relation_names_differ;
      table_limit = w.table_limit;
      policy_limit = w.policy_limit;
      tables = All-weaker _ _ (table_still cat with_these (λ n h. h)) cat.tables w.tables;
      change_limit = omega (arith, room);
    }

  module _ (actor group member : Name) where
    abbrev it : Membership
    it = record { member = member; group = group }

    one_more : (b : Bool) → list_any (is_membership group member) cat.memberships ≡ b → is_role cat group ≡ true → is_role cat member ≡ true → belongs cat group member ≡ false
        → IsWellFormed (with_these (cond b cat.memberships (cat.memberships ++ it ∷ [])))
    one_more true there g m absent = with_memberships cat.memberships w.members_are_roles w.groups_are_roles w.memberships_differ w.no_loop
    one_more false new g m absent = with_memberships (cat.memberships ++ it ∷ [])
        (All-push (λ m. is_role cat m.member ≡ true) cat.memberships it w.members_are_roles m) (All-push (λ m. is_role cat m.group ≡ true) cat.memberships it w.groups_are_roles g)
        (with_last same_membership turned cat.memberships it new w.memberships_differ) (none_after cat.memberships it w.no_loop absent)

    pub role_granted : Passed (checks_grant_role cat actor group member) → IsWellFormed (counted cat (after cat actor (GrantRole group member)))
    role_granted h =
        let both = and_parts (is_role cat group) (is_role cat member) (not-false _ h.1.0) in
        one_more (list_any (is_membership group member) cat.memberships) refl both.0 both.1 h.1.1.0

    pub role_revoked : IsWellFormed (counted cat (after cat actor (RevokeRole group member)))
    role_revoked =
        let stays : Membership → Bool = λ m. not (is_membership group member m) in
        with_memberships (filter stays cat.memberships) (All-filter stays (λ m. is_role cat m.member ≡ true) cat.memberships w.members_are_roles) (All-filter stays (λ m. is_role cat m.group ≡ true) cat.memberships w.groups_are_roles)
        (some_left same_membership stays cat.memberships w.memberships_differ) (none_among (filter stays cat.memberships) cat.memberships (λ m among. (was_among stays cat.memberships m among).0) w.no_loop)

  -- ---- tables

  module _ (ts : List Table) where
    abbrev with_tables : Catalog
    with_tables = counted cat (record cat { tables = ts })

    of_tables : AreDistinct (map (λ t. t.name) ts ++ flat_map its_index_names ts) → length ts ≤ most_tables → policy_count ts ≤ most_policies → All (IsWellFormedTable cat) ts → IsWellFormed with_tables
    of_tables names few few_policies well = record {
      role_names_differ = w.role_names_differ;
      everyone_is_no_role = w.everyone_is_no_role;
      role_limit = w.role_limit;
      root_is_superuser = w.root_is_superuser;
      members_are_roles = w.members_are_roles;
      groups_are_roles = w.groups_are_roles;
      memberships_differ = w.memberships_differ;
      no_loop = w.no_loop;
      relation_names_differ = names;
      table_limit = few;
      policy_limit = few_policies;
      tables = All-weaker _ _ (table_still cat with_tables (λ n h. h)) ts well;
      change_limit = omega (arith, room);
    }

  module _ (actor name : Name) (columns : List Column) (by_role : is_role cat actor ≡ true) where
    abbrev new : Table
    new = new_table actor name columns

    no_policies : (ts : List Table) → policy_count (ts ++ new ∷ []) ≡ policy_count ts
    no_policies [] = refl
    no_policies (t ∷ ts) = ap (λ n. length t.policies + n) (no_policies ts)

    names_now : is_table cat name ≡ false → is_index cat name ≡ false → AreDistinct (map (λ t. t.name) (cat.tables ++ new ∷ []) ++ flat_map its_index_names (cat.tables ++ new ∷ []))
    names_now no_table no_index =
        let names : map (λ t. t.name) (cat.tables ++ new ∷ []) ≡ table_names cat ++ name ∷ [] = map-append _ cat.tables (new ∷ []) in
        let others : flat_map its_index_names (cat.tables ++ new ∷ []) ≡ index_names cat = flat_map-append its_index_names cat.tables (new ∷ []) ∙ append-nil (index_names cat) in
        rw (names, others, append_assoc) (one_between (table_names cat) (index_names cat) name (new_relation name cat.tables no_table no_index) w.relation_names_differ)

    pub table_created : Passed (checks_create_table cat name columns) → IsWellFormed (with_tables (cat.tables ++ new ∷ []))
    table_created h =
        let limits = or_parts (is_full most_tables cat.tables) (nat_lt most_columns (length columns)) h.1.1.1.0 in
        let few = leb-false most_tables (length cat.tables) limits.0 in
        of_tables (cat.tables ++ new ∷ []) (names_now h.0 h.1.0) (omega (arith, few, length-append cat.tables (new ∷ []))) (rw no_policies w.policy_limit)
        (All-push (IsWellFormedTable cat) cat.tables new w.tables (new_well cat actor name columns by_role h.1.1.0 (ltb-false most_columns (length columns) limits.1)))

  -- ---- one table changed

  module _ (table : Name) (f : Table → Table) (named : (t : Table) → (f t).name ≡ t.name) where
    abbrev is_it : Table → Bool
    is_it t = bytes_eq table t.name

    abbrev now : List Table
    now = first_changed is_it f cat.tables

    table_changed : AreDistinct (table_names cat ++ flat_map its_index_names now) → policy_count now ≤ most_policies → ((t : Table) → table_named table cat ≡ Some t → IsWellFormedTable cat t → IsWellFormedTable cat (f t))
        → IsWellFormed (counted cat (with_table cat table f))
    table_changed names few well = of_tables now
        (subst (λ n. AreDistinct (n ++ flat_map its_index_names now)) (sym (same_changed is_it (λ t. t.name) f named cat.tables)) names)
        (rw (as_many is_it f cat.tables) w.table_limit) few (all_changed is_it (IsWellFormedTable cat) f cat.tables well w.tables)

    -- with the same indexes
    same_indexes : ((t : Table) → its_index_names (f t) ≡ its_index_names t) → AreDistinct (table_names cat ++ flat_map its_index_names now)
    same_indexes same = subst (λ n. AreDistinct (table_names cat ++ n)) (sym (same_each is_it its_index_names f same cat.tables)) w.relation_names_differ

    -- with so many more policies at most
    more_policies : (k : ℕ) → ((t : Table) → length (f t).policies ≤ length t.policies + k) → (ts : List Table) → policy_count (first_changed is_it f ts) ≤ policy_count ts + k
    more_policies k more [] = omega arith
    more_policies k more (t ∷ ts) = go (is_it t) (more t) (more_policies k more ts)
      where
        go : (b : Bool) → length (f t).policies ≤ length t.policies + k → policy_count (first_changed is_it f ts) ≤ policy_count ts + k → policy_count (cond b (f t ∷ ts) (t ∷ first_changed is_it f ts)) ≤ policy_count (t ∷ ts) + k
        go true one rest = omega (arith, one)
        go false one rest = omega (arith, rest)

    -- with the same indexes, and no more policies
    pub changed_well : ((t : Table) → its_index_names (f t) ≡ its_index_names t) → ((t : Table) → length (f t).policies ≤ length t.policies)
        → ((t : Table) → table_named table cat ≡ Some t → IsWellFormedTable cat t → IsWellFormedTable cat (f t)) → IsWellFormed (counted cat (with_table cat table f))
    changed_well same no_more well =
        let few = more_policies 0 (λ t. let h = no_more t in omega arith) cat.tables in
        table_changed (same_indexes same) (omega (arith, few, w.policy_limit)) well

-- ---- each statement on a table

fewer : {X : Type 0} (p : X → Bool) (xs : List X) → length (filter p xs) ≤ length xs
fewer p xs = let n = length-filter p xs in let m = count_by-le-length p xs in omega arith

-- what is known of the table that the checks found
at_found : (P : Table → Type 0) (t s : Table) (o : Option Table) → o ≡ Some t → o ≡ Some s → P t → P s
at_found P t s o a b h = subst P (some_is t s (sym a ∙ b)) h

-- a policy changes no name, and adds one policy at most
policy_keeps : (p : ast.CreatePolicy) (t : Table) (b : Result BoundExpr BindError)
    → ((with_bound p t b).name ≡ t.name) × (its_index_names (with_bound p t b) ≡ its_index_names t) × (length (with_bound p t b).policies ≤ length t.policies + 1)
policy_keeps p t (Ok e) = (refl, refl, omega (arith, length-append t.policies (new_policy p e ∷ [])))
policy_keeps p t (Err why) = (refl, refl, omega arith)

-- a condition that passes its checks
bound_passed : (room : Bool) (bound : Result BoundExpr BindError) (mistake : Option BindError) → Passed (checks_bound room bound mistake) → (e : BoundExpr) × (bound ≡ Ok e) × (movable e ≡ true) × (room ≡ true)
bound_passed room (Err fault) mistake h = absurd (true≢false h.0)
bound_passed room (Ok e) (Some fault) h = absurd (true≢false h.0)
bound_passed room (Ok e) None h = (e, refl, not-false _ h.0, not-false _ h.1.0)

module _ (cat : Catalog) (w : IsWellFormed cat) (room : cat.change_number < most_changes) (actor : Name) where
  owner_set : (table owner : Name) → Passed (checks_set_owner cat actor table owner) → IsWellFormed (counted cat (with_table cat table (with_owner owner)))
  owner_set table owner h =
      let t = found r.UndefinedTable _ (table_named table cat) h in
      changed_well cat w room table (with_owner owner) (λ t. refl) (λ t. refl) (λ t. omega arith) (λ s _ well. owned cat s well owner (not-false _ t.2.0))

  security_set : (table : Name) (setting : RowSecurity) → IsWellFormed (counted cat (with_table cat table (with_row_security setting)))
  security_set table Enable = changed_well cat w room table (with_row_security Enable) (λ t. refl) (λ t. refl) (λ t. omega arith) (λ t _ well. secured cat t well Enable)
  security_set table Disable = changed_well cat w room table (with_row_security Disable) (λ t. refl) (λ t. refl) (λ t. omega arith) (λ t _ well. secured cat t well Disable)
  security_set table Force = changed_well cat w room table (with_row_security Force) (λ t. refl) (λ t. refl) (λ t. omega arith) (λ t _ well. secured cat t well Force)
  security_set table NoForce = changed_well cat w room table (with_row_security NoForce) (λ t. refl) (λ t. refl) (λ t. omega arith) (λ t _ well. secured cat t well NoForce)

  select_granted : (grant : ast.Grant) → Passed (checks_select cat actor grant) → IsWellFormed (counted cat (with_table cat grant.table (with_grants_to grant)))
  select_granted grant h =
      let t = found r.UndefinedTable _ (table_named grant.table cat) h in
      changed_well cat w room grant.table (with_grants_to grant) (λ t. refl) (λ t. refl) (λ t. omega arith)
      (λ s there well. granted_to cat s well grant (at_found (λ t. are_columns t.columns grant.columns ≡ true) t.0 s _ t.1 there (not-false _ t.2.1.0)) (not-false _ t.2.1.1.0))

  select_revoked : (grant : ast.Grant) → IsWellFormed (counted cat (with_table cat grant.table (without_grants_to grant)))
  select_revoked grant = changed_well cat w room grant.table (without_grants_to grant) (λ t. refl) (λ t. refl) (λ t. omega arith) (λ t _ well. revoked_from cat t well grant)

  policy_created : (p : ast.CreatePolicy) → Passed (checks_create_policy cat actor p) → IsWellFormed (counted cat (with_table cat p.table (with_policy p)))
  policy_created p h =
      let t = found r.UndefinedTable _ (table_named p.table cat) h in
      let bound = bound_passed (has_policy_room cat.tables) (bound_predicate t.0 p.predicate) (predicate_fault t.0 p.predicate) t.2.1.1.1 in
      let keeps : (t : Table) → ((with_policy p t).name ≡ t.name) × (its_index_names (with_policy p t) ≡ its_index_names t) × (length (with_policy p t).policies ≤ length t.policies + 1) = λ t. policy_keeps p t (bound_predicate t p.predicate) in
      let few = more_policies cat w room p.table (with_policy p) (λ t. (keeps t).0) 1 (λ t. (keeps t).2) cat.tables in
      let has_room = ltb-true (policy_count cat.tables) most_policies bound.3 in
      table_changed cat w room p.table (with_policy p) (λ t. (keeps t).0) (same_indexes cat w room p.table (with_policy p) (λ t. (keeps t).0) (λ t. (keeps t).1)) (omega (arith, few, has_room))
      (λ s there well. guarded_by cat s well p bound.0 (at_found (λ t. bound_predicate t p.predicate ≡ Ok bound.0) t.0 s _ t.1 there bound.1) (not-false _ t.2.1.0)
      (at_found (λ t. has_policy t.policies p.name ≡ false) t.0 s _ t.1 there t.2.1.1.0) bound.2)

  policy_dropped : (name table : Name) → IsWellFormed (counted cat (with_table cat table (without_policy_named name)))
  policy_dropped name table =
      changed_well cat w room table (without_policy_named name) (λ t. refl) (λ t. refl) (λ t. fewer (λ p. not (bytes_eq name p.name)) t.policies) (λ t _ well. unguarded cat t well name)

  module _ (name table column : Name) (t : Table) (there : table_named table cat ≡ Some t) (i : ℕ) (at : column_index t.columns column ≡ Some i) where
    abbrev f : Table → Table
    f = with_index name column

    -- the names of tables and indexes before and after the new one
    index_names_now : is_table cat name ≡ false → is_index cat name ≡ false → AreDistinct (table_names cat ++ flat_map its_index_names (first_changed (λ t. bytes_eq table t.name) f cat.tables))
    index_names_now no_table no_index =
        let b = between (λ t. bytes_eq table t.name) cat.tables t there in
        let before = table_names cat ++ (flat_map its_index_names b.before ++ its_index_names t) in
        let after = flat_map its_index_names b.after in
        let old : table_names cat ++ index_names cat ≡ before ++ after =
        ap (λ ts. table_names cat ++ flat_map its_index_names ts) b.whole
        ∙ ap (λ ns. table_names cat ++ ns) (flat_map-append its_index_names b.before (t ∷ b.after) ∙ sym (append_assoc (flat_map its_index_names b.before) (its_index_names t) after))
        ∙ sym (append_assoc (table_names cat) (flat_map its_index_names b.before ++ its_index_names t) after) in
        let its_names : its_index_names (f t) ≡ its_index_names t ++ name ∷ [] = ap (λ is. map (λ i. i.name) is) (one_more_index t name column i at) ∙ map-append (λ i. i.name) t.indexes _ in
        let new : table_names cat ++ flat_map its_index_names (first_changed (λ t. bytes_eq table t.name) f cat.tables) ≡ before ++ name ∷ after =
        ap (λ ts. table_names cat ++ flat_map its_index_names ts) (b.changed f)
        ∙ ap (λ ns. table_names cat ++ ns) (flat_map-append its_index_names b.before (f t ∷ b.after) ∙ ap (λ ns. flat_map its_index_names b.before ++ (ns ++ after)) its_names
        ∙ ap (λ ns. flat_map its_index_names b.before ++ ns) (append_assoc (its_index_names t) (name ∷ []) after) ∙ sym (append_assoc (flat_map its_index_names b.before) (its_index_names t) (name ∷ after)))
        ∙ sym (append_assoc (table_names cat) (flat_map its_index_names b.before ++ its_index_names t) (name ∷ after)) in
        subst AreDistinct (sym new)
        (one_between before after name (ap (list_any (bytes_eq name)) (sym old) ∙ new_relation name cat.tables no_table no_index) (subst AreDistinct old w.relation_names_differ))

  index_created : (name table column : Name) → Passed (checks_create_index cat actor name table column) → IsWellFormed (counted cat (with_table cat table (with_index name column)))
  index_created name table column h =
      let t = found r.UndefinedTable _ (table_named table cat) h in
      let i = found r.UndefinedColumn (checks_new_index cat name t.0) (column_index t.0.columns column) t.2.1 in
      let few = more_policies cat w room table (with_index name column) (λ t. refl) 0 (λ t. omega arith) cat.tables in
      table_changed cat w room table (with_index name column) (λ t. refl) (index_names_now name table column t.0 t.1 i.0 i.1 i.2.0 i.2.1.0) (omega (arith, few, w.policy_limit))
      (λ s there well. indexed cat s well name column i.0 (at_found (λ t. column_index t.columns column ≡ Some i.0) t.0 s _ t.1 there i.1) (at_found (λ t. is_indexed i.0 t.indexes ≡ false) t.0 s _ t.1 there i.2.1.1.0))

  -- ---- each statement

  after_well : (s : Statement) → is_role cat actor ≡ true → Passed (checks cat actor s) → IsWellFormed (counted cat (after cat actor s))
  after_well (CreateRole name superuser bypass_rls) by_role e = role_created cat w room name superuser bypass_rls actor e
  after_well (GrantRole group member) by_role e = role_granted cat w room actor group member e
  after_well (RevokeRole group member) by_role e = role_revoked cat w room actor group member
  after_well (CreateTable name columns) by_role e = table_created cat w room actor name columns by_role e
  after_well (SetOwner table owner) by_role e = owner_set table owner e
  after_well (SetRowSecurity table setting) by_role e = security_set table setting
  after_well (CreateIndex name table column) by_role e = index_created name table column e
  after_well (GrantSelect grant) by_role e = select_granted grant e
  after_well (RevokeSelect grant) by_role e = select_revoked grant
  after_well (CreatePolicy policy) by_role e = policy_created policy e
  after_well (DropPolicy name table) by_role e = policy_dropped name table

-- ---- the laws

pub at_first_well : IsWellFormed at_first
at_first_well = record {
  role_names_differ = with_head bytes_eq _ [] refl (none_distinct bytes_eq);
  everyone_is_no_role = refl;
  role_limit = omega arith;
  root_is_superuser = refl;
  members_are_roles = All-nil (λ m. is_role at_first m.member ≡ true);
  groups_are_roles = All-nil (λ m. is_role at_first m.group ≡ true);
  memberships_differ = none_distinct same_membership;
  no_loop = none_at_first;
  relation_names_differ = none_distinct bytes_eq;
  table_limit = omega arith;
  policy_limit = omega arith;
  tables = All-nil (IsWellFormedTable at_first);
  change_limit = omega arith;
}

pub change_well : KeepsWellFormed
change_well cat new actor statement w e =
    let it = accepted cat new actor statement e in
    subst IsWellFormed (sym it.is) (after_well cat w it.room actor statement it.by_role it.passed)

or_same_well : (cat : Catalog) (actor : Name) (s : Statement) (result : Result Catalog Refusal) → IsWellFormed cat → changed cat actor s ≡ result → IsWellFormed (or_same cat result)
or_same_well cat actor s (Ok new) w e = change_well cat new actor s w e
or_same_well cat actor s (Err why) w e = w

run_from : (statements : List (Name × Statement)) (cat : Catalog) → IsWellFormed cat → IsWellFormed (run statements cat)
run_from [] cat w = w
run_from (s ∷ ss) cat w = run_from ss (or_same cat (changed cat s.0 s.1)) (or_same_well cat s.0 s.1 (changed cat s.0 s.1) w refl)

pub run_well : RunsAreWellFormed
run_well statements = run_from statements at_first at_first_well

-- ---- guards

all_movable : (ps : List Policy) → All (λ p. movable p.predicate ≡ true) ps → list_all (λ p. movable p.predicate) ps ≡ true
all_movable [] h = refl
all_movable (p ∷ ps) h = and_from (movable p.predicate) _ (All-head (λ p. movable p.predicate ≡ true) p ps h) (all_movable ps (All-tail (λ p. movable p.predicate ≡ true) p ps h))

pub guards_show : GuardsShow
guards_show cat r t row w there =
    let its = All-contains (IsWellFormedTable cat) cat.tables t w.tables there in
    guard_shows cat r t row (all_movable t.policies (All-weaker (IsWellFormedPolicy cat t.columns) (λ p. movable p.predicate ≡ true) (λ p well. well.never_faults) t.policies its.policies))
