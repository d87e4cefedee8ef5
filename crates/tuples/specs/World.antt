-- The world of a query: its role and its tables.
use Rattle.std.specs.Prelude.{List, [], ◌∷◌, map, filter, slice_index_or}
use Rattle.value.specs.Datum.{Row}
use Rattle.value.specs.Names.{Name}
use Rattle.expr.specs.BoundQuery.{BoundQuery}
use Rattle.tuples.specs.Guards.{Guard, shows}
use Rattle.tuples.specs.declared.slot.Slot.{Slot}
use Rattle.tuples.specs.declared.slot.Slot.TheVariants as slot
use Rattle.tuples.specs.Combinations.{Combination}

-- the rows of an entry of FROM, and the guard of those that the role sees
pub record GuardedTable : Type 0 where
  pub rows : List Row
  pub guard : Guard

-- a bound query, the role that asks it, and the table of each entry
pub record World : Type 0 where
  pub role : Name
  pub query : BoundQuery
  pub tables : List GuardedTable

abbrev pub seen_rows : Name → GuardedTable → List Row
seen_rows role t = filter (shows role t.guard) t.rows

-- of each entry the rows that the role sees
abbrev pub seen_tables : World → List (List Row)
seen_tables w = map (seen_rows w.role) w.tables

-- ---- combinations by the numbers of their rows

-- the row of a table in a slot
abbrev pub row_in_slot : List Row → Slot → Row
row_in_slot rows slot.Absent = []
row_in_slot rows slot.NullRow = []
row_in_slot rows (slot.Row number) = slice_index_or rows number []

-- the rows in the slots
abbrev pub combination_at : List GuardedTable → List Slot → Combination
combination_at [] slots = []
combination_at (t ∷ tables) [] = []
combination_at (t ∷ tables) (p ∷ slots) = row_in_slot t.rows p ∷ combination_at tables slots
