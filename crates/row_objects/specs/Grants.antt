-- The set of grants on a table and its columns.
use Rattle.std.specs.Prelude.{◌≡◌, Bool, true, false, not, ◌&&◌, List, [], ◌∷◌, ◌++◌, map, filter, Option, Some, None, if◌then◌else◌}
use Rattle.std.specs.Str.{bytes_eq}
use Rattle.std.specs.List.{list_any}
use Rattle.value.specs.Names.{Name}

-- SELECT on a column, or on the whole table, for a role or for everyone
pub record Grant : Type 0 where
  pub to : Name
  pub column : Option Name

-- both are on the whole table, or on the same column
abbrev pub same_part : Option Name → Option Name → Bool
same_part None None = true
same_part (Some a) (Some b) = bytes_eq a b
same_part None (Some b) = false
same_part (Some a) None = false

abbrev pub same_grant : Grant → Grant → Bool
same_grant a b = bytes_eq a.to b.to && same_part a.column b.column

abbrev pub has_grant : List Grant → Grant → Bool
has_grant gs g = list_any (λ held. same_grant held g) gs

-- grants are a set: one that is among them is not added again
abbrev pub with_grant : List Grant → Grant → List Grant
with_grant gs g = if has_grant gs g then gs else gs ++ g ∷ []

abbrev pub with_grants : List Grant → List Grant → List Grant
with_grants gs [] = gs
with_grants gs (g ∷ more) = with_grants (with_grant gs g) more

-- SELECT on the whole table, or on each of the columns
abbrev pub grants_to : Option (List Name) → Name → List Grant
grants_to None role = record { to = role; column = None } ∷ []
grants_to (Some columns) role = map (λ column. record { to = role; column = Some column }) columns

abbrev pub grants_to_all : Option (List Name) → List Name → List Grant
grants_to_all columns [] = []
grants_to_all columns (role ∷ roles) = grants_to columns role ++ grants_to_all columns roles

-- a revoke on the table takes each grant, one on columns those on these columns alone
abbrev pub takes : Option (List Name) → Option Name → Bool
takes None column = true
takes (Some columns) None = false
takes (Some columns) (Some column) = list_any (bytes_eq column) columns

abbrev pub is_revoked : Option (List Name) → List Name → Grant → Bool
is_revoked columns roles g = list_any (bytes_eq g.to) roles && takes columns g.column

abbrev pub without_grants : Option (List Name) → List Name → List Grant → List Grant
without_grants columns roles gs = filter (λ g. not (is_revoked columns roles g)) gs

-- the list starts with these
abbrev pub IsFront : {X : Type 0} → List X → List X → Type 0
IsFront {X} front all = (more : List X) × (all ≡ front ++ more)
