-- What is known of the rows that roles see is right in a database.
use Rattle.std.specs.Prelude.{◌≡◌, List, Some, map}
use Rattle.std.specs.List.{Contains}
use Rattle.row_objects.specs.Objects.{Table}
use Rattle.catalog.specs.Catalog.{table_named}
use Rattle.access.specs.Access.{sees}
use Rattle.stats.specs.Marked.{AreStatsOf}
use Rattle.seen_tables.specs.Known.{SeenTable}
use Rattle.store.specs.Database.{Database, rows_of}

-- the rows that it says the role sees of its table are those, and its statistics are theirs
pub record IsSeenIn (database : Database) (x : SeenTable) : Type 0 where
  pub of_rows : (t : Table) → table_named x.table database.catalog ≡ Some t → x.statistics.marks ≡ map (sees database.catalog x.role t) (rows_of database x.table)
  pub statistics : AreStatsOf (rows_of database x.table) x.statistics

-- (opaque, so that a search carries it as one fact)
unfoldable pub AreSeenIn : Database → List SeenTable → Type 0
AreSeenIn database seen = (x : SeenTable) → Contains seen x → IsSeenIn database x
