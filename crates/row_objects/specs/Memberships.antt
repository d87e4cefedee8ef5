-- The roles that a role belongs to, and the set of memberships.
use Rattle.std.specs.Prelude.{◌≡◌, ℕ, Bool, not, ◌&&◌, ◌||◌, List, [], ◌∷◌, ◌++◌, Contains, filter, if◌then◌else◌}
use Rattle.std.specs.Str.{bytes_eq}
use Rattle.std.specs.List.{list_any}
use Rattle.value.specs.Names.{Name}

-- the most roles of a catalogue
abbrev pub most_roles : ℕ
most_roles = 256

-- the member has the rights of the group
pub record Membership : Type 0 where
  pub member : Name
  pub group : Name

-- r is s, or reaches it by the further memberships alone, or by way of the first one
abbrev pub belongs_by : List Membership → Name → Name → Bool
belongs_by [] r s = bytes_eq r s
belongs_by (m ∷ further) r s = belongs_by further r s || (belongs_by further r m.member && belongs_by further m.group s)

-- these memberships lead from r to s, one after the other
abbrev pub Leads : List Membership → Name → Name → List Membership → Type 0
Leads ms r s [] = r ≡ s
Leads ms r s (m ∷ path) = Contains ms m × (r ≡ m.member) × Leads ms m.group s path

-- no role is reached from itself by one or more memberships
abbrev pub HasNoLoop : List Membership → Type 0
HasNoLoop ms = (r : Name) (m : Membership) (path : List Membership) → Leads ms r r (m ∷ path) → ⊥

-- of a grant of a group to a member: the group belongs to the member already, so that a role would belong to itself
abbrev pub closes_loop : List Membership → Name → Name → Bool
closes_loop ms group member = belongs_by ms group member

-- ---- the set of memberships

abbrev pub is_membership : Name → Name → Membership → Bool
is_membership group member m = bytes_eq m.group group && bytes_eq m.member member

-- one more at the end, unless it is there
abbrev pub with_membership : Name → Name → List Membership → List Membership
with_membership group member ms = if list_any (is_membership group member) ms then ms else ms ++ record { member = member; group = group } ∷ []

abbrev pub without_membership : Name → Name → List Membership → List Membership
without_membership group member ms = filter (λ m. not (is_membership group member m)) ms
