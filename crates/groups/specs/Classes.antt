-- One more member in groups that are in the order of their keys.
use Rattle.std.specs.Prelude.{List, [], ◌∷◌, ◌++◌}
use Rattle.std.specs.Ordering.{match_ordering}
use Rattle.value.specs.Datum.{Row}
use Rattle.value.specs.Orders.{row_cmp}
use Rattle.groups.specs.Members.{Member}
use Rattle.groups.specs.Groups.{Group}

abbrev pub grouped : Row → List Row → Group
grouped key members = record { key = key; members = members }

-- at the end of the group of its key, or a group by itself before the first with a greater key
abbrev pub put : Member → List Group → List Group
put m [] = grouped m.key (m.arguments ∷ []) ∷ []
put m (g ∷ gs) = match_ordering (row_cmp m.key g.key) (grouped m.key (m.arguments ∷ []) ∷ g ∷ gs) (grouped g.key (g.members ++ m.arguments ∷ []) ∷ gs) (g ∷ put m gs)
