-- Names without repetitions.
use Rattle.std.specs.Prelude.{List, [], ◌∷◌, ◌++◌, if◌then◌else◌}
use Rattle.std.specs.Str.{bytes_eq}
use Rattle.std.specs.List.{list_any}
use Rattle.value.specs.Names.{Name}

-- one more at the end, unless it is there
abbrev pub with_name : List Name → Name → List Name
with_name names name = if list_any (bytes_eq name) names then names else names ++ name ∷ []

abbrev pub with_names : List Name → List Name → List Name
with_names names [] = names
with_names names (name ∷ more) = with_names (with_name names name) more

-- in the order in which they come first
abbrev pub each_once : List Name → List Name
each_once names = with_names [] names
