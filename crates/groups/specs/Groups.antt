-- The groups of the members: the classes of those with the same key, nulls being equal.
use Rattle.std.specs.Prelude.{Bool, List, [], ◌∷◌, map, filter, if◌then◌else◌}
use Rattle.std.specs.Ordering.{is_eq}
use Rattle.bags.specs.Sorting.{sorted_by}
use Rattle.value.specs.Datum.{Row}
use Rattle.value.specs.Orders.{row_cmp}
use Rattle.expr.specs.declared.bound.ColumnId.{ColumnId}
use Rattle.groups.specs.Members.{Member}

abbrev pub same_key : Row → Row → Bool
same_key k l = is_eq (row_cmp k l)

-- a key before others, unless it is the first already
abbrev pub front_once : Row → List Row → List Row
front_once k [] = k ∷ []
front_once k (l ∷ ls) = if same_key k l then k ∷ ls else k ∷ l ∷ ls

-- keys in order, each once
abbrev pub without_repeats : List Row → List Row
without_repeats [] = []
without_repeats (k ∷ ks) = front_once k (without_repeats ks)

-- a key, and the arguments of its members
pub record Group : Type 0 where
  pub key : Row
  pub members : List Row

abbrev pub has_key : Row → Member → Bool
has_key k m = same_key m.key k

abbrev pub group_with : List Member → Row → Group
group_with members k = record { key = k; members = map (λ m. m.arguments) (filter (has_key k) members) }

abbrev pub keys : List Member → List Row
keys members = map (λ m. m.key) members

-- each key once, with the members that have it
abbrev pub classes : List Member → List Group
classes members = map (group_with members) (without_repeats (sorted_by row_cmp (keys members)))

abbrev pub all_in_one : List Member → Group
all_in_one members = record { key = []; members = map (λ m. m.arguments) members }

-- without GROUP BY there is one group, also of no members
abbrev pub groups_of : List ColumnId → List Member → List Group
groups_of [] members = all_in_one members ∷ []
groups_of (column ∷ columns) members = classes members
