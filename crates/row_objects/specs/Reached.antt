-- The roles that are marked as reached, by their indices.
use Rattle.std.specs.Prelude.{ℕ, Bool, false, not, ◌&&◌, ◌||◌, List, [], ◌∷◌, Option, Some, None, is_some, if◌then◌else◌, get_or}
use Rattle.std.specs.Str.{bytes_eq}
use Rattle.value.specs.Names.{Name}
use Rattle.row_objects.specs.Named.{index_named}
use Rattle.row_objects.specs.Memberships.{Membership}

abbrev pub mark_at : List Bool → Option ℕ → Bool
mark_at marks None = false
mark_at marks (Some i) = get_or marks i false

module _ {V : Type 0} (roles : List (Name × V)) where
  abbrev pub is_marked : List Bool → Name → Bool
  is_marked marks name = mark_at marks (index_named name roles)

  -- s is r itself, or it is marked
  abbrev pub is_reached : Name → List Bool → Name → Bool
  is_reached r marks s = bytes_eq r s || is_marked marks s

  -- the index of the first group that is not marked and has a member that is
  abbrev pub next_group : List Bool → List Membership → Option ℕ
  next_group marks [] = None
  next_group marks (m ∷ ms) = if is_marked marks m.member && not (is_marked marks m.group) then index_named m.group roles else next_group marks ms

  -- both are roles
  abbrev pub is_of_roles : Membership → Bool
  is_of_roles m = is_some (index_named m.member roles) && is_some (index_named m.group roles)
