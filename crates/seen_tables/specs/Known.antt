-- What is known of the rows of tables that roles see.
use Rattle.std.specs.Prelude.{◌≡◌, ◌⊎◌, Bool, ◌&&◌, List}
use Rattle.std.specs.List.{Contains}
use Rattle.std.specs.Str.{bytes_eq}
use Rattle.value.specs.Datum.{Row}
use Rattle.value.specs.Names.{Name}
use Rattle.stats.specs.Marked.{AreStatsOf, MarkedStats}
use Rattle.tuples.specs.Guards.{AreSeen, Guard}

-- a role, the name of a table, of each row whether the role sees it, and statistics of these rows
pub record SeenTable : Type 0 where
  pub role : Name
  pub table : Name
  pub statistics : MarkedStats

-- it is of that role and a table of that name
abbrev pub is_of : (role table : Name) → SeenTable → Bool
is_of role table x = bytes_eq x.role role && bytes_eq x.table table

-- it is of that role and table, which has these rows, of which the guard shows those that the role sees
pub record IsSeen (role table : Name) (guard : Guard) (rows : List Row) (x : SeenTable) : Type 0 where
  pub of_role : x.role ≡ role
  pub of_table : x.table ≡ table
  pub of_rows : AreSeen role guard rows x.statistics.marks
  pub statistics : AreStatsOf rows x.statistics

-- what is known of that role and table is right
abbrev pub AreKnown : (role table : Name) → Guard → List Row → List SeenTable → Type 0
AreKnown role table guard rows seen = (x : SeenTable) → Contains seen x → x.role ≡ role → x.table ≡ table → IsSeen role table guard rows x

-- each that is new is of that role and table, and right
abbrev pub Keeps : (role table : Name) → Guard → List Row → (old new : List SeenTable) → Type 0
Keeps role table guard rows old new = (x : SeenTable) → Contains new x → Contains old x ⊎ IsSeen role table guard rows x
