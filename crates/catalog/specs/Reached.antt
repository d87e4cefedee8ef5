-- The roles that a role belongs to, as marks.
use Rattle.std.specs.Prelude.{◌≡◌, ◌≤◌, ◌||◌, ℕ, Bool, List, Option, length}
use Rattle.std.specs.Str.{bytes_eq}
use Rattle.std.specs.List.{position_from}
use Rattle.value.specs.Names.{Name}
use Rattle.row_objects.specs.Reached.{mark_at}
use Rattle.catalog.specs.Catalog.{Catalog, belongs}

-- the index of the role of that name
abbrev pub role_index : Name → Catalog → Option ℕ
role_index name cat = position_from (λ role. bytes_eq name role.name) 0 cat.roles

-- each role has a mark, by its index; r belongs to itself, and to those whose mark is set
abbrev pub AreMarksOf : Catalog → Name → List Bool → Type 0
AreMarksOf cat r marks = (length cat.roles ≤ length marks) × ((s : Name) → (bytes_eq r s || mark_at marks (role_index s cat)) ≡ belongs cat r s)
