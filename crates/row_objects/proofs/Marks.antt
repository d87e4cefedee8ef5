-- Marks that are filled until no membership leads further are the roles that are reached.
use Rattle.std.proofs.Common.{◌≡◌, ℕ, zero, suc, ◌+◌, ◌<◌, ◌≤◌, Bool, true, false, not, ◌&&◌, ◌||◌, cond, List, [], ◌∷◌, length, get_or, set, replicate, Option, Some, None, is_some, refl, sym, ap, ◌∙◌, subst, arith, bytes_eq, Contains, ⊎_elim, true≢false}
use Rattle.std.proofs.lemmas.Bool.{and_parts, cases_eq}
use Rattle.std.proofs.lemmas.List.{get_or-set_same, get_or-set_other}
use Rattle.std.proofs.lemmas.List.Sums.{sum_by-set}
use Rattle.std.specs.Cmp.{both_ways}
use Rattle.std.specs.List.{list_all, position_from, count_by}
use Rattle.memory.proofs.Cases.{some_is, none_is_not, some_is_not}
use Rattle.row_objects.specs.Named.{index_named}
use Rattle.value.specs.Names.{Name}
use Rattle.row_objects.specs.Memberships.{Membership, belongs_by, Leads}
use Rattle.row_objects.specs.Reached.{mark_at, is_marked, is_reached, next_group, is_of_roles}
use Rattle.row_objects.proofs.Paths.{text_same, same_text, itself, joined, step, reached}

-- ---- indices

module _ {E : Type 0} (p : E → Bool) where
  -- an index is counted from the first number on
  pub at_least : (es : List E) (k i : ℕ) → position_from p k es ≡ Some i → k ≤ i
  at_least [] k i h = absurd (none_is_not i h)
  at_least (e ∷ es) k i h = go (p e) h (at_least es (k + 1) i)
    where
      go : (b : Bool) → cond b (Some k) (position_from p (k + 1) es) ≡ Some i → (position_from p (k + 1) es ≡ Some i → k + 1 ≤ i) → k ≤ i
      go true h more = let q = some_is k i h in omega arith
      go false h more = let q = more h in omega arith

  within : (es : List E) (k i : ℕ) → position_from p k es ≡ Some i → i < k + length es
  within [] k i h = absurd (none_is_not i h)
  within (e ∷ es) k i h = go (p e) h (within es (k + 1) i)
    where
      go : (b : Bool) → cond b (Some k) (position_from p (k + 1) es) ≡ Some i → (position_from p (k + 1) es ≡ Some i → i < k + 1 + length es) → i < k + length (e ∷ es)
      go true h more = let q = some_is k i h in omega arith
      go false h more = let q = more h in omega arith

module _ {V : Type 0} where
  same_from : (a b : Name) (es : List (Name × V)) (k i : ℕ) → position_from (λ e. bytes_eq a e.0) k es ≡ Some i → position_from (λ e. bytes_eq b e.0) k es ≡ Some i → a ≡ b
  same_from a b [] k i p q = absurd (none_is_not i p)
  same_from a b (e ∷ es) k i p q = go (same_from a b es (k + 1) i) (bytes_eq a e.0) (bytes_eq b e.0) refl refl p q
    where
      go : (position_from (λ e. bytes_eq a e.0) (k + 1) es ≡ Some i → position_from (λ e. bytes_eq b e.0) (k + 1) es ≡ Some i → a ≡ b) → (s t : Bool) → bytes_eq a e.0 ≡ s → bytes_eq b e.0 ≡ t
          → cond s (Some k) (position_from (λ e. bytes_eq a e.0) (k + 1) es) ≡ Some i → cond t (Some k) (position_from (λ e. bytes_eq b e.0) (k + 1) es) ≡ Some i → a ≡ b
      go more true true x y p q = text_same a e.0 x ∙ sym (text_same b e.0 y)
      go more true false x y p q = absurd (let h = at_least (λ e. bytes_eq b e.0) es (k + 1) i q in let j = some_is k i p in omega arith)
      go more false true x y p q = absurd (let h = at_least (λ e. bytes_eq a e.0) es (k + 1) i p in let j = some_is k i q in omega arith)
      go more false false x y p q = more p q

no_mark : (n i : ℕ) → get_or (replicate n false) i false ≡ false
no_mark zero i = refl
no_mark (suc n) zero = refl
no_mark (suc n) (suc i) = no_mark n i

pub false_is_not : {X : Type 0} → false ≡ true → X
false_is_not h = absurd (true≢false (sym h))

module _ {V : Type 0} (roles : List (Name × V)) where
  pub index_within : (name : Name) (i : ℕ) → index_named name roles ≡ Some i → i < length roles
  index_within name i h = let q = within (λ e. bytes_eq name e.0) roles 0 i h in omega arith

  -- ---- a marked role is reached

  module _ (ms : List Membership) (r : Name) where
    abbrev pub IsSound : List Bool → Type 0
    IsSound marks = (n : Name) → is_marked roles marks n ≡ true → belongs_by ms r n ≡ true

    none_sound : (k : ℕ) → IsSound (replicate k false)
    none_sound k n h = go (index_named n roles) h
      where
        go : (o : Option ℕ) → mark_at (replicate k false) o ≡ true → belongs_by ms r n ≡ true
        go None h = false_is_not h
        go (Some i) h = false_is_not (sym (no_mark k i) ∙ h)

    -- one more that is reached
    sound_more : (marks : List Bool) (g : Name) (j : ℕ) → IsSound marks → belongs_by ms r g ≡ true → index_named g roles ≡ Some j → IsSound (set marks j true)
    sound_more marks g j sound there at n h = go (index_named n roles) refl h (sound n)
      where
        go : (o : Option ℕ) → index_named n roles ≡ o → mark_at (set marks j true) o ≡ true → (mark_at marks o ≡ true → belongs_by ms r n ≡ true) → belongs_by ms r n ≡ true
        go None e h old = false_is_not h
        go (Some i) e h old = ⊎_elim
            (λ same. subst (λ m. belongs_by ms r m ≡ true) (same_from g n roles 0 i (at ∙ ap (λ (k : ℕ). let o : Option ℕ = Some k in o) (sym same)) e) there)
            (λ other. old (sym (get_or-set_other marks j i true false other) ∙ h))
            (cases_eq i j)

    -- the role itself
    pub first_sound : (k j : ℕ) → index_named r roles ≡ Some j → IsSound (set (replicate k false) j true)
    first_sound k j at = sound_more (replicate k false) r j (none_sound k) (itself ms r) at

  pub marked_at : (marks : List Bool) (g : Name) (j : ℕ) → index_named g roles ≡ Some j → j < length marks → is_marked roles (set marks j true) g ≡ true
  marked_at marks g j at l = rw at (get_or-set_same marks j true false l)

  -- a marked role stays so
  pub marked_still : (marks : List Bool) (g : Name) (j : ℕ) → j < length marks → is_marked roles marks g ≡ true → is_marked roles (set marks j true) g ≡ true
  marked_still marks g j l h = go (index_named g roles) h
    where
      go : (o : Option ℕ) → mark_at marks o ≡ true → mark_at (set marks j true) o ≡ true
      go None h = false_is_not h
      go (Some i) h = ⊎_elim
          (λ same. rw same (get_or-set_same marks j true false l))
          (λ other. get_or-set_other marks j i true false other ∙ h)
          (cases_eq i j)

  -- ---- one more group

  record IsNext (marks : List Bool) (ms : List Membership) (j : ℕ) : Type 0 where
    m : Membership
    among : Contains ms m
    member : is_marked roles marks m.member ≡ true
    group : is_marked roles marks m.group ≡ false
    at : index_named m.group roles ≡ Some j

  next_is : (marks : List Bool) (ms : List Membership) (j : ℕ) → next_group roles marks ms ≡ Some j → IsNext marks ms j
  next_is marks [] j h = absurd (none_is_not j h)
  next_is marks (m ∷ ms) j h = go (next_is marks ms j) (is_marked roles marks m.member) (is_marked roles marks m.group) refl refl h
    where
      further : IsNext marks ms j → IsNext marks (m ∷ ms) j
      further n = record { m = n.m; among = (suc n.among.0, omega (arith, n.among.1), n.among.2); member = n.member; group = n.group; at = n.at }

      go : (next_group roles marks ms ≡ Some j → IsNext marks ms j) → (s t : Bool) → is_marked roles marks m.member ≡ s → is_marked roles marks m.group ≡ t → cond (s && not t) (index_named m.group roles) (next_group roles marks ms) ≡ Some j → IsNext marks (m ∷ ms) j
      go more true false x y h = record { m = m; among = (0, omega arith, refl); member = x; group = y; at = h }
      go more true true x y h = further (more h)
      go more false t x y h = further (more h)

  module _ (marks : List Bool) (ms : List Membership) (j : ℕ) (next : next_group roles marks ms ≡ Some j) where
    pub next_within : j < length roles
    next_within = let n = next_is marks ms j next in index_within n.m.group j n.at

    pub next_sound : (r : Name) → IsSound ms r marks → IsSound ms r (set marks j true)
    next_sound r sound =
        let n = next_is marks ms j next in
        sound_more ms r marks n.m.group j sound (joined ms r n.m.member n.m.group (sound n.m.member n.member) (step ms n.m n.among)) n.at

    -- one fewer is not marked
    pub next_fewer : j < length marks → count_by not (set marks j true) < count_by not marks
    next_fewer l =
        let n = next_is marks ms j next in
        let was : get_or marks j false ≡ false = rw n.at at n.group in
        let e = sum_by-set (λ x. cond (not x) 1 0) marks j true false l in
        let f = rw was at e in
        omega (arith, f)

  -- ---- no further group

  closed : (marks : List Bool) (ms : List Membership) → next_group roles marks ms ≡ None → list_all (is_of_roles roles) ms ≡ true
      → (m : Membership) → Contains ms m → is_marked roles marks m.member ≡ true → is_marked roles marks m.group ≡ true
  closed marks [] none known m h marked = absurd (omega (arith, h.1))
  closed marks (n ∷ ms) none known m h marked = by (λ none known among. closed marks ms none known m among marked) h
    where
      both : (is_of_roles roles n ≡ true) × (list_all (is_of_roles roles) ms ≡ true)
      both = and_parts (is_of_roles roles n) (list_all (is_of_roles roles) ms) known

      go : (s t : Bool) (o : Option ℕ) → is_some o ≡ true → cond (s && not t) o (next_group roles marks ms) ≡ None → (s ≡ true → t ≡ true) × (next_group roles marks ms ≡ None)
      go true true o some h = ((λ e. refl), h)
      go true false None some h = false_is_not some
      go true false (Some i) some h = absurd (some_is_not i h)
      go false t o some h = ((λ e. false_is_not e), h)

      here : (is_marked roles marks n.member ≡ true → is_marked roles marks n.group ≡ true) × (next_group roles marks ms ≡ None)
      here = go (is_marked roles marks n.member) (is_marked roles marks n.group) (index_named n.group roles) (and_parts (is_some (index_named n.member roles)) (is_some (index_named n.group roles)) both.0).1 none

      by : (next_group roles marks ms ≡ None → list_all (is_of_roles roles) ms ≡ true → Contains ms m → is_marked roles marks m.group ≡ true) → Contains (n ∷ ms) m → is_marked roles marks m.group ≡ true
      by more (zero, below, is) = subst (λ (p : Membership). is_marked roles marks p.group ≡ true) is (here.0 (subst (λ (p : Membership). is_marked roles marks p.member ≡ true) (sym is) marked))
      by more (suc k, below, is) = more here.1 both.1 (k, omega (arith, below), is)

  module _ (ms : List Membership) (known : list_all (is_of_roles roles) ms ≡ true) where
    on_path : (marks : List Bool) → next_group roles marks ms ≡ None → (path : List Membership) (r s : Name) → Leads ms r s path → is_marked roles marks r ≡ true → is_marked roles marks s ≡ true
    on_path marks none [] r s lead h = subst (λ t. is_marked roles marks t ≡ true) lead h
    on_path marks none (m ∷ path) r s lead h =
        on_path marks none path m.group s lead.2 (closed marks ms none known m lead.0 (subst (λ t. is_marked roles marks t ≡ true) lead.1 h))

    -- the marks are those of the reached roles
    pub all_marked : (marks : List Bool) (r s : Name) → IsSound ms r marks → is_marked roles marks r ≡ true → next_group roles marks ms ≡ None → is_marked roles marks s ≡ belongs_by ms r s
    all_marked marks r s sound start none =
        both_ways _ _ (sound s) (λ there. let found = reached ms r s there in on_path marks none found.0 r s found.1 start)

    member_known : (all : List Membership) (m : Membership) → list_all (is_of_roles roles) all ≡ true → Contains all m → is_some (index_named m.member roles) ≡ true
    member_known [] m known h = absurd (omega (arith, h.1))
    member_known (n ∷ all) m known (zero, below, is) = subst (λ (p : Membership). is_some (index_named p.member roles) ≡ true) is (and_parts _ _ (and_parts _ _ known).0).0
    member_known (n ∷ all) m known (suc k, below, is) = member_known all m (and_parts _ _ known).1 (k, omega (arith, below), is)

    -- so is the role itself, which is marked
    pub all_reached_by : (marks : List Bool) (r s : Name) → is_marked roles marks s ≡ belongs_by ms r s → is_reached roles r marks s ≡ belongs_by ms r s
    all_reached_by marks r s e = go (bytes_eq r s) refl
      where
        go : (b : Bool) → bytes_eq r s ≡ b → (b || is_marked roles marks s) ≡ belongs_by ms r s
        go true h = sym (subst (λ t. belongs_by ms r t ≡ true) (text_same r s h) (itself ms r))
        go false h = e

    -- a name that is no role reaches itself alone
    no_role : (r s : Name) → index_named r roles ≡ None → bytes_eq r s ≡ belongs_by ms r s
    no_role r s none = both_ways _ _ (λ same. subst (λ t. belongs_by ms r t ≡ true) (text_same r s same) (itself ms r)) (λ there. let found = reached ms r s there in by found.0 found.1)
      where
        by : (path : List Membership) → Leads ms r s path → bytes_eq r s ≡ true
        by [] lead = same_text r s lead
        by (m ∷ path) lead = false_is_not (sym (ap is_some (sym (ap (λ n. index_named n roles) lead.1) ∙ none)) ∙ member_known ms m known lead.0)

    unmarked : (k : ℕ) (s : Name) → is_marked roles (replicate k false) s ≡ false
    unmarked k s = go (index_named s roles)
      where
        go : (o : Option ℕ) → mark_at (replicate k false) o ≡ false
        go None = refl
        go (Some i) = no_mark k i

    -- and nothing is marked for it
    pub none_reached : (k : ℕ) (r s : Name) → index_named r roles ≡ None → is_reached roles r (replicate k false) s ≡ belongs_by ms r s
    none_reached k r s none = go (bytes_eq r s) (no_role r s none)
      where
        go : (b : Bool) → b ≡ belongs_by ms r s → (b || is_marked roles (replicate k false) s) ≡ belongs_by ms r s
        go true e = e
        go false e = unmarked k s ∙ e
